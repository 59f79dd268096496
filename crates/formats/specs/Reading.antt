-- What is read of a list of bytes at an offset of it.
use Rattle.std.specs.Prelude.{ℕ, ◌+◌, ◌*◌, cond, List, length, Ok, Err, Result, nat_le, nat_lt, slice_index}
use Rattle.std.specs.List.{between}
use Rattle.formats.specs.declared.Sheet.{Sheet}
use Rattle.formats.specs.declared.Place.{Place}
use Rattle.formats.specs.declared.ReadFault.{ReadFault}
use Rattle.formats.specs.declared.ReadFault.TheVariants.{CutShort}
use Rattle.formats.specs.Readers.{then}

abbrev pub bytes_of : Sheet → List ℕ
bytes_of sheet = sheet.bytes.now

abbrev pub end : Place → ℕ
end p = p.start + p.length

-- the bytes at a place
abbrev pub bytes_at : List ℕ → Place → List ℕ
bytes_at s p = between p.start (end p) s

abbrev pub byte_at : List ℕ → ℕ → Result ℕ ReadFault
byte_at s at = cond (nat_lt at (length s)) (Ok (slice_index s at)) (Err (CutShort at))

-- a number of two bytes, the high one first
abbrev pub word_at : List ℕ → ℕ → Result ℕ ReadFault
word_at s at = cond (nat_le (at + 2) (length s)) (Ok (slice_index s at * 256 + slice_index s (at + 1))) (Err (CutShort at))

-- a text behind its length
abbrev pub text_at : List ℕ → ℕ → Result Place ReadFault
text_at s at =
    then (word_at s at)
    (λ n. cond (nat_le (at + 2 + n) (length s)) (Ok (record { start = at + 2; length = n })) (Err (CutShort at)))
