-- What a cursor reads, and where it goes on.
use Rattle.std.specs.Prelude.{◌≡◌, ℕ, ◌+◌, List, Ok, Err, Result}
use Rattle.formats.specs.declared.Place.{Place}
use Rattle.formats.specs.declared.ReadFault.{ReadFault}
use Rattle.formats.specs.declared.cursor.Cursor.{Cursor}
use Rattle.formats.specs.declared.cursor.Text.{Text}
use Rattle.formats.specs.Readers.{then}
use Rattle.formats.specs.Reading.{bytes_of, end, byte_at, text_at, bytes_at}

-- the bytes of its sheet
abbrev pub bytes_in : Cursor → List ℕ
bytes_in cursor = bytes_of cursor.sheet

-- what was read, with where the next field begins
abbrev pub with_next : {X F : Type 0} → Result X F → ℕ → Result (X × ℕ) F
with_next (Ok x) next = Ok (x, next)
with_next (Err f) next = Err f

-- What a reader does with a cursor: it answers what `read` gives for the sheet and the offset, and goes on behind what it read.
-- The sheet stays.
abbrev pub ReadsBy : {X F : Type 0} → (List ℕ → ℕ → Result (X × ℕ) F) → Cursor → Result X F → Cursor → Type 0
ReadsBy read old r new = (with_next r new.at ≡ read (bytes_in old) old.at) × (new.sheet ≡ old.sheet)

-- a byte
abbrev pub byte_and_next : List ℕ → ℕ → Result (ℕ × ℕ) ReadFault
byte_and_next s at = then (byte_at s at) (λ b. Ok (b, at + 1))

-- a text as it can be spoken of: its bytes, and not a reference to them
pub record Placed : Type 0 where
  pub at : ℕ
  pub bytes : List ℕ
  pub place : Place

abbrev pub placed_in : Text → Placed
placed_in t = record { at = t.at; bytes = t.bytes.now; place = t.place }

abbrev pub placed : {F : Type 0} → Result Text F → Result Placed F
placed (Ok t) = Ok (placed_in t)
placed (Err f) = Err f

-- a text behind its length
abbrev pub text_and_next : List ℕ → ℕ → Result (Placed × ℕ) ReadFault
text_and_next s at = then (text_at s at) (λ p. Ok (record { at = at; bytes = bytes_at s p; place = p }, end p))
