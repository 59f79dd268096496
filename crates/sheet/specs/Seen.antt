-- The parts of a member, with lists in the place of arrays.
use Rattle.std.specs.Prelude.{List, length, is_some, Option}
use Rattle.lists.specs.Listed.{listed}
use Rattle.pieces.specs.declared.codes.Kind.{Kind}
use Rattle.pieces.specs.declared.codes.Flags.{Flags}
use Rattle.pieces.specs.declared.parts.Key.{Key}
use Rattle.pieces.specs.declared.parts.Decorator.{Decorator}
use Rattle.pieces.specs.declared.parts.Parameter.{Parameter}
use Rattle.pieces.specs.declared.parts.Body.{Body}
use Rattle.sheet.specs.declared.parts.Parts.{Parts}
use Rattle.sheet.specs.Rules.{Outline, begins_plain}

pub record Seen : Type 0 where
  pub kind : Kind
  pub flags : Flags
  pub key : Key
  pub decorators : List Decorator
  pub parameters : List Parameter
  pub body : Option Body

abbrev pub seen_parts : Parts → Seen
seen_parts p = record {
  kind = p.kind;
  flags = p.flags;
  key = p.key;
  decorators = listed p.decorators;
  parameters = listed p.parameters;
  body = p.body;
}

-- what the rules look at
abbrev pub outline : Seen → Outline
outline m = record {
  kind = m.kind;
  flags = m.flags;
  key_kind = m.key.kind;
  key_length = m.key.text.length;
  decorators = length m.decorators;
  parameters = length m.parameters;
  plain_first = begins_plain (λ p. p.form) m.parameters;
  present = is_some m.body;
}
