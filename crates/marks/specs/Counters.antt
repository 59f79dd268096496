-- What a counter that stands at f has free, and what it draws.
use Rattle.std.specs.Prelude.{◌≡◌, ℕ, zero, suc, ◌+◌, ◌-◌, ◌%◌, ◌≤◌, cond, ◌&&◌, List, [], ◌∷◌, length, Ok, Err, Result, ◌==◌, nat_le}
use Rattle.marks.specs.declared.counting.Counter.{Counter}
use Rattle.marks.specs.declared.source.Exhausted.{Exhausted}
use Rattle.marks.specs.Chains.{Drawn}
use Rattle.marks.specs.Sets.{Set}
use Rattle.marks.specs.Sizes.{size}

-- f to 65,535, and none if f is 0
abbrev pub from : ℕ → Set
from f k = nat_le 1 f && (nat_le f k && nat_le k 65535)

abbrev pub counter_free : Counter → Set
counter_free c = from c.next

-- the number that it stands at
abbrev pub given : ℕ → Result ℕ Exhausted
given f = cond (f == 0) (Err (record { drawn = 0 })) (Ok f)

-- and then the next one; 0 after 65,535, and 0 stays
abbrev pub after : ℕ → ℕ
after f = cond (f == 0) 0 ((f + 1) % 65536)

abbrev pub Counts : ℕ → Result ℕ Exhausted → ℕ → Type 0
Counts f r g = (f ≤ 65535) × (r ≡ given f) × (g ≡ after f)

abbrev pub CounterSteps : Counter → Result ℕ Exhausted → Counter → Type 0
CounterSteps s r t = Counts s.next r t.next

-- the n marks that a counter at f gives, one after another
abbrev pub run_from : ℕ → ℕ → List ℕ
run_from f zero = []
run_from f (suc n) = f ∷ run_from (suc f) n

-- What is drawn from a counter is a run from the number that it stands at, and from 1 on a counter at f has 65536 - f marks to give.
abbrev pub CounterDrawsInOrder : Type 0
CounterDrawsInOrder =
    ((c d : Counter) (ms : List ℕ) → Drawn CounterSteps ms c d → ms ≡ run_from c.next (length ms))
    × ((f : ℕ) → 1 ≤ f → f ≤ 65536 → size (from f) ≡ 65536 - f)
