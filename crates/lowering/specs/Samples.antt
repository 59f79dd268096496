-- Members and parts of a record, as the worked examples write them.
use Rattle.std.specs.Prelude.{ℕ, Bool, true, false, List, [], map, length, Some, None, Ok, Err, Option, Result}
use Rattle.refusals.specs.declared.Layer.{Layer}
use Rattle.refusals.specs.declared.Numbered.{Numbered}
use Rattle.formats.specs.declared.Place.{Place}
use Rattle.pieces.specs.declared.codes.Kind.{Kind}
use Rattle.pieces.specs.declared.codes.Kind.TheVariants as kinds
use Rattle.pieces.specs.declared.codes.KeyKind.{KeyKind}
use Rattle.pieces.specs.declared.codes.KeyKind.TheVariants as keyKinds
use Rattle.pieces.specs.declared.codes.Shape.TheVariants as shapes
use Rattle.pieces.specs.declared.parts.Decorator.{Decorator}
use Rattle.pieces.specs.declared.parts.Body.{Body}
use Rattle.pieces.specs.declared.parts.Body.TheVariants as bodies
use Rattle.sheet.specs.Seen.{Seen}
use Rattle.marks.specs.Counters.{run_from}
use Rattle.rules.specs.declared.naming.Stem.{Stem}
use Rattle.rules.specs.declared.naming.Name.{Name}
use Rattle.rules.specs.declared.describing.Assignment.{Assignment}
use Rattle.rules.specs.declared.describing.Code.{Code}
use Rattle.rules.specs.declared.describing.DescriptorKey.{DescriptorKey}
use Rattle.rules.specs.declared.forming.Initializer.{Initializer}
use Rattle.rules.specs.declared.forming.StorageStem.{StorageStem}
use Rattle.rules.specs.declared.forming.Storage.{Storage}
use Rattle.rules.specs.declared.forming.MadeForm.{MadeForm}
use Rattle.rules.specs.Draws.{Drawing, draws}
use Rattle.rules.specs.Walks.{Applied}
use Rattle.rules.specs.Records.{Record, Described, More, lowered, code_number}
use Rattle.lowering.specs.declared.faults.LowerFault.{LowerFault}
use Rattle.lowering.specs.Refusals.{lower_refusal}

-- Members are made of texts, each a place in a sheet.

-- a decorator that is an identifier
abbrev pub identifier : Place → Decorator
identifier t = record { shape = shapes.Identifier; text = t }

-- a decorator that is taken out, such as a call
abbrev pub expression : Place → Decorator
expression t = record { shape = shapes.Other; text = t }

-- a public instance member with this key, without decorators and parameters
abbrev pub plain : Kind → KeyKind → Place → Option Body → Seen
plain kind key_kind key body = record {
  kind = kind;
  flags = record { is_static = false; is_private = false; is_async = false; is_generator = false; is_declared = false };
  key = record { kind = key_kind; text = key };
  decorators = [];
  parameters = [];
  body = body;
}

-- a text of no bytes
abbrev pub no_text : Place
no_text = record { start = 0; length = 0 }

-- a field without a value
abbrev pub field : Place → Seen
field key = plain kinds.Field keyKinds.Identifier key None

-- an accessor without a value
abbrev pub accessor : Place → Seen
accessor key = plain kinds.Accessor keyKinds.Identifier key None

-- a method with nothing in its body
abbrev pub method : Place → Seen
method key = plain kinds.Method keyKinds.Identifier key (Some (bodies.Text no_text))

-- a getter with nothing in its body
abbrev pub getter : Place → Seen
getter key = plain kinds.Getter keyKinds.Identifier key (Some (bodies.Text no_text))

-- a constructor with nothing in its body, so without a super call
abbrev pub builder : Seen
builder = plain kinds.Constructor keyKinds.Identifier no_text (Some (bodies.Constructor no_text no_text))

-- the member, made static
abbrev pub static : Seen → Seen
static m = record {
  kind = m.kind;
  flags = record {
    is_static = true;
    is_private = m.flags.is_private;
    is_async = m.flags.is_async;
    is_generator = m.flags.is_generator;
    is_declared = m.flags.is_declared;
  };
  key = m.key;
  decorators = m.decorators;
  parameters = m.parameters;
  body = m.body;
}

-- the member, made private
abbrev pub private : Seen → Seen
private m = record {
  kind = m.kind;
  flags = record {
    is_static = m.flags.is_static;
    is_private = true;
    is_async = m.flags.is_async;
    is_generator = m.flags.is_generator;
    is_declared = m.flags.is_declared;
  };
  key = m.key;
  decorators = m.decorators;
  parameters = m.parameters;
  body = m.body;
}

-- the member with these decorators
abbrev pub decorated : List Decorator → Seen → Seen
decorated ds m = record {
  kind = m.kind;
  flags = m.flags;
  key = m.key;
  decorators = ds;
  parameters = m.parameters;
  body = m.body;
}

-- the member with this text as its value or body
abbrev pub holding : Place → Seen → Seen
holding t m = record {
  kind = m.kind;
  flags = m.flags;
  key = m.key;
  decorators = m.decorators;
  parameters = m.parameters;
  body = Some (bodies.Text t);
}

-- What is made of members is written as follows.
infix 70 ◌$◌
-- a made name: a stem, a dollar sign and a mark
abbrev pub ◌$◌ : Stem → ℕ → Name
◌$◌ stem mark = record { stem = stem; mark = mark }

-- the name of a storage
abbrev pub storage : StorageStem → ℕ → Storage
storage stem number = record { stem = stem; number = number }

-- the call of an initializer, with a value if there is one
abbrev pub call : Name → Option Place → Initializer
call name value = record { name = name; value = value }

-- a text that is assigned to a name ahead of the class
abbrev pub assign : Name → Place → Assignment
assign name text = record { name = name; text = text }

-- the code of a member of this kind: of the instance half, and of the static half
abbrev pub on_instance : Kind → Code
on_instance k = record { kind = k; is_static = false }

abbrev pub on_class : Kind → Code
on_class k = record { kind = k; is_static = true }

-- the numbers of the codes
abbrev pub code_numbers : List Described → List ℕ
code_numbers ds = map (λ x. code_number x.code) ds

-- a descriptor: decorators, code, key, and what follows the key
abbrev pub descriptor : Applied → Code → DescriptorKey → More → Described
descriptor decorators code key more = record { decorators = decorators; code = code; key = key; more = more }

-- the member of this number draws a name with this stem
abbrev pub drawing : ℕ → Stem → Drawing
drawing whose stem = record { whose = whose; stem = stem }

-- a refusal as it is told
abbrev pub refused : ℕ → Layer → ℕ → Numbered
refused number layer place = record { number = number; layer = layer; place = place }

-- A class is lowered with a counter from 1 and the storage number 0.
abbrev pub lowered_from_one : Bool → List Seen → Record
lowered_from_one derived ms = lowered ms derived 0 (run_from 1 (length (draws derived ms)))

-- what the members are made into
abbrev pub forms : Record → List MadeForm
forms r = map (λ i. i.form) r.members

-- what a class is refused with, if it is refused
abbrev pub refusal : Result (Unit {0}) LowerFault → Option Numbered
refusal (Ok _) = None
refusal (Err e) = Some (lower_refusal e)
