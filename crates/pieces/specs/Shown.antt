-- What a sheet `s` says of a member, from what is read of it: its texts are the bytes at its places.
use Rattle.std.specs.Prelude.{ℕ, List, map}
use Rattle.formats.specs.Reading.{bytes_at}
use Rattle.pieces.specs.declared.fields.Head.{Head}
use Rattle.pieces.specs.declared.parts.Key.{Key}
use Rattle.pieces.specs.declared.parts.Body.{Body}
use Rattle.pieces.specs.declared.parts.Body.TheVariants.{Text, Constructor}
use Rattle.pieces.specs.declared.parts.Decorator.{Decorator}
use Rattle.pieces.specs.declared.parts.Parameter.{Parameter}
use Rattle.pieces.specs.Described.{KeyText, DecoratorText, ParameterText, HeadText, BodyText, one_text, head_and_tail, MemberText}
use Rattle.pieces.specs.Fields.{Fields}

module _ (s : List ℕ) where
  abbrev pub shown_decorator : Decorator → DecoratorText
  shown_decorator d = record { shape = d.shape; text = bytes_at s d.text }

  abbrev pub shown_parameter : Parameter → ParameterText
  shown_parameter p = record { form = p.form; text = bytes_at s p.text }

  abbrev pub shown_key : Key → KeyText
  shown_key k = record { kind = k.kind; text = bytes_at s k.text }

  abbrev pub shown_head : Head → HeadText
  shown_head h = record { kind = h.kind; flags = h.flags; present = h.present; key = shown_key h.key }

  abbrev pub shown_body : Body → BodyText
  shown_body (Text p) = one_text (bytes_at s p)
  shown_body (Constructor head tail) = head_and_tail (bytes_at s head) (bytes_at s tail)

  abbrev pub shown_fields : Fields → MemberText
  shown_fields f = record {
    head = shown_head f.head;
    decorators = map shown_decorator f.decorators;
    parameters = map shown_parameter f.parameters;
    body = shown_body f.body;
  }
