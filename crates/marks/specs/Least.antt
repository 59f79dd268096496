-- What the reserved layer over a counter draws: the least mark that is free.
use Rattle.std.specs.Prelude.{◌≡◌, ℕ, ◌<◌, true, false, Ok, Err, Result}
use Rattle.marks.specs.declared.counting.Counter.{Counter}
use Rattle.marks.specs.declared.reserving.Reserved.{Reserved}
use Rattle.marks.specs.declared.source.Exhausted.{Exhausted}
use Rattle.marks.specs.Counters.{counter_free}
use Rattle.marks.specs.Sets.{Set, Empty, without, except}

abbrev pub unreserved : Reserved Counter → Set
unreserved s = except (counter_free s.below) s.table

abbrev pub LeastOf : Set → Result ℕ Exhausted → Set → Type 0
LeastOf s (Ok m) t = (s m ≡ true) × ((k : ℕ) → k < m → s k ≡ false) × ((k : ℕ) → t k ≡ without s m k)
LeastOf s (Err e) t = Empty s × Empty t × (e.drawn ≡ 0)

abbrev pub DrawsLeast : Reserved Counter → Result ℕ Exhausted → Reserved Counter → Type 0
DrawsLeast s r t = LeastOf (unreserved s) r (unreserved t)
