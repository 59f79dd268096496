-- What several draws do to a set of marks.
use Rattle.std.specs.Prelude.{◌≡◌, ℕ, ◌+◌, false, cond, List, [], ◌∷◌, length, Ok, Err, Result, nat_le}
use Rattle.marks.specs.declared.source.Exhausted.{Exhausted}
use Rattle.marks.specs.Sets.{Set, among, except, Within}
use Rattle.marks.specs.Sizes.{size}

-- no number comes twice
abbrev pub Once : List ℕ → Type 0
Once [] = Unit {0}
Once (x ∷ xs) = (among xs x ≡ false) × Once xs

-- ms are taken from s, each once, and t is left
pub record Takes (s : Set) (ms : List ℕ) (t : Set) : Type 0 where
  pub once : Once ms
  pub free : Within (among ms) s
  pub rest : (k : ℕ) → t k ≡ except s ms k
  pub fewer : size s ≡ length ms + size t

-- the answer to a call for n where k are free: a refusal says k
abbrev pub report : ℕ → ℕ → Result (Unit {0}) Exhausted
report n k = cond (nat_le n k) (Ok tt) (Err (record { drawn = k }))
