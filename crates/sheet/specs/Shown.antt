-- What a sheet `s` describes, from what is read of it: its texts are the bytes at its places.
use Rattle.std.specs.Prelude.{ℕ, cond, List, [], map, is_some, Some, None, Option}
use Rattle.formats.specs.declared.Place.{Place}
use Rattle.formats.specs.Reading.{bytes_at}
use Rattle.pieces.specs.declared.codes.Kind.{Kind}
use Rattle.pieces.specs.declared.parts.Body.{Body}
use Rattle.pieces.specs.Bodies.{is_constructor}
use Rattle.pieces.specs.Described.{BodyText, one_text, head_and_tail, MemberText}
use Rattle.pieces.specs.Shown.{shown_decorator, shown_parameter, shown_body}
use Rattle.sheet.specs.Classes.{SeenClass}
use Rattle.sheet.specs.Described.{ClassText}
use Rattle.sheet.specs.Seen.{Seen}

module _ (s : List ℕ) where
  -- the texts of a value or body that is not there are empty
  abbrev pub shown_option : Kind → Option Body → BodyText
  shown_option kind None = cond (is_constructor kind) (head_and_tail [] []) (one_text [])
  shown_option kind (Some b) = shown_body s b

  abbrev pub shown_member : Seen → MemberText
  shown_member m = record {
    head = record {
      kind = m.kind;
      flags = m.flags;
      present = is_some m.body;
      key = record { kind = m.key.kind; text = bytes_at s m.key.text };
    };
    decorators = map (shown_decorator s) m.decorators;
    parameters = map (shown_parameter s) m.parameters;
    body = shown_option m.kind m.body;
  }

  abbrev pub shown_superclass : Option Place → List ℕ
  shown_superclass None = []
  shown_superclass (Some p) = bytes_at s p

  abbrev pub shown_class : SeenClass → ClassText
  shown_class c = record {
    name = bytes_at s c.name;
    superclass = shown_superclass c.superclass;
    members = map shown_member c.members;
  }
