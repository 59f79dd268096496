-- The parts of a sheet, each with its bytes and their place, and which of them have to be names.
use Rattle.std.specs.Prelude.{ℕ, Bool, false, cond, not, ◌&&◌, ◌||◌, List, Ok, Err, Result, ◌==◌}
use Rattle.formats.specs.declared.Place.{Place}
use Rattle.formats.specs.declared.ReadFault.{ReadFault}
use Rattle.formats.specs.declared.ReadFault.TheVariants.{NoName}
use Rattle.formats.specs.Names.{is_name}
use Rattle.formats.specs.Readers.{then}
use Rattle.formats.specs.Reading.{text_at, bytes_at}
use Rattle.pieces.specs.declared.codes.Kind.{Kind}
use Rattle.pieces.specs.declared.codes.Kind.TheVariants as kind
use Rattle.pieces.specs.declared.codes.KeyKind.{KeyKind}
use Rattle.pieces.specs.declared.codes.KeyKind.TheVariants as keyed
use Rattle.pieces.specs.declared.codes.Shape.{Shape}
use Rattle.pieces.specs.declared.codes.Shape.TheVariants as shape
use Rattle.pieces.specs.declared.codes.Form.{Form}
use Rattle.pieces.specs.declared.codes.Form.TheVariants as form
use Rattle.pieces.specs.Bodies.{is_kind}
use Rattle.pieces.specs.Codes.{key_code, shape_code, form_code}
use Rattle.pieces.specs.declared.piece.Piece.{Piece}
use Rattle.pieces.specs.declared.piece.Piece.TheVariants.{Key, Decorator, Parameter, Body}

-- a part as it can be spoken of: its bytes, and not a reference to them
pub data Part : Type 0 where
  key : Kind → KeyKind → List ℕ → Place → Part
  decorator : Shape → List ℕ → Place → Part
  parameter : Form → List ℕ → Place → Part
  body : List ℕ → Place → Part

abbrev pub part : Piece → Part
part (Key of kind text) = key of kind text.bytes.now text.place
part (Decorator shape text) = decorator shape text.bytes.now text.place
part (Parameter form text) = parameter form text.bytes.now text.place
part (Body text) = body text.bytes.now text.place

abbrev pub place_of : Part → Place
place_of (key of kind bytes place) = place
place_of (decorator shape bytes place) = place
place_of (parameter form bytes place) = place
place_of (body bytes place) = place

abbrev pub bytes_in : Part → List ℕ
bytes_in (key of kind bytes place) = bytes
bytes_in (decorator shape bytes place) = bytes
bytes_in (parameter form bytes place) = bytes
bytes_in (body bytes place) = bytes

-- where the length of its text stands
abbrev pub at_of : Piece → ℕ
at_of (Key of kind text) = text.at
at_of (Decorator shape text) = text.at
at_of (Parameter form text) = text.at
at_of (Body text) = text.at

-- identifiers, computed or not, are names; but constructors and others have no key to be named by
abbrev pub names_key : Kind → KeyKind → Bool
names_key of k =
    not (is_kind of kind.Constructor || is_kind of kind.Other)
    && (key_code k == key_code keyed.Identifier || key_code k == key_code keyed.ComputedIdentifier)

abbrev pub names_shape : Shape → Bool
names_shape k = shape_code k == shape_code shape.Identifier

abbrev pub names_form : Form → Bool
names_form k = form_code k == form_code form.Plain

-- whether the part has to be a name
abbrev pub named : Part → Bool
named (key of kind bytes place) = names_key of kind
named (decorator shape bytes place) = names_shape shape
named (parameter form bytes place) = names_form form
named (body bytes place) = false

abbrev pub checked : Part → ℕ → Result Part ReadFault
checked p at = cond (not (named p) || is_name (bytes_in p)) (Ok p) (Err (NoName at))

-- the text at `at`, made a part
abbrev pub piece_at : List ℕ → (List ℕ → Place → Part) → ℕ → Result Part ReadFault
piece_at s make at = then (text_at s at) (λ p. checked (make (bytes_at s p) p) at)

abbrev pub shown : Result Piece ReadFault → Result Part ReadFault
shown (Ok x) = Ok (part x)
shown (Err e) = Err e
