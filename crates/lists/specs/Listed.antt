-- The list that a `Bounded` stands for, and how it is read.
use Rattle.std.specs.Prelude.{ℕ, ◌+◌, cond, List, [], take, Ok, Err, Result, nat_le}
use Rattle.formats.specs.declared.ReadFault.{ReadFault}
use Rattle.formats.specs.declared.ReadFault.TheVariants.{Unknown}
use Rattle.formats.specs.Readers.{then, items}
use Rattle.formats.specs.Reading.{byte_at}
use Rattle.lists.specs.declared.Bounded.{Bounded}

abbrev pub listed : {T : Type 0} {N : ℕ} → Bounded T N → List T
listed b = take b.len b.items

-- reads one thing, and says where the next begins
abbrev pub Reader : Type 0 → Type 0
Reader X = ℕ → Result (X × ℕ) ReadFault

-- a count, at most `most`, and so many things
abbrev pub counted : {X : Type 0} → ℕ → Reader X → List ℕ → Reader (List X)
counted most read s at =
    then (byte_at s at) (λ n. cond (nat_le n most) (items read n [] (at + 1)) (Err (Unknown at)))

-- the list of `s` at an offset
abbrev pub list_at : {X : Type 0} → ℕ → (List ℕ → Reader X) → List ℕ → Reader (List X)
list_at most reads s = counted most (reads s) s

-- what was read, as a list
abbrev pub shown : {X E : Type 0} {N : ℕ} → Result (Bounded X N) E → Result (List X) E
shown (Ok b) = Ok (listed b)
shown (Err e) = Err e
