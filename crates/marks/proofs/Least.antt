-- A counter under reserved marks draws the least that is free.
use Rattle.std.proofs.Common.{◌≡◌, ℕ, zero, suc, ◌<◌, Bool, true, false, not, ◌&&◌, List, Ok, Err, Result, ap, arith}
use Rattle.std.proofs.lemmas.Bool.Decides.{nat_tests}
use Rattle.marks.specs.declared.counting.Counter.{Counter}
use Rattle.marks.specs.declared.reserving.Reserved.{Reserved}
use Rattle.marks.specs.declared.source.Exhausted.{Exhausted}
use Rattle.marks.specs.Counters.{from, counter_free, CounterSteps}
use Rattle.marks.specs.Least.{LeastOf, DrawsLeast, unreserved}
use Rattle.marks.specs.Sets.{Set, without, except}
use Rattle.marks.specs.Skips.{Skips}
use Rattle.marks.proofs.Counted.{counts_draws}
use Rattle.marks.specs.Passing.{skipped_same, skips_draws}

pub least : {s t : Reserved Counter} {r : Result ℕ Exhausted} → (t.table ≡ s.table) × Skips CounterSteps s.table s.below r t.below →
    DrawsLeast s r t
least {s = s} {t = t} {r = Ok n} (same, (ms, u, before, step, passes)) =
    let (is_free, rest) = skips_draws counter_free CounterSteps counts_draws s.table s.below (Ok n) t.below (ms, u, before, step, passes) in
    let is : n ≡ u.next = grind (arith, nat_tests) in (
      is_free,
      λ k lt.
          let back = skipped_same counter_free CounterSteps counts_draws s.table ms s.below u before k in
          grind (arith, nat_tests),
      λ k. let rest-k = rest k in rw same rest-k,
    )
least {s = s} {t = t} {r = Err e} (same, skips) =
    let (none, none_after, first) = skips_draws counter_free CounterSteps counts_draws s.table s.below (Err e) t.below skips in
    (none, λ k. let after-k = none_after k in rw same after-k, first)

-- what the layer has free over a counter at f, without the numbers of a table
pub unreserved_from : {s : Reserved Counter} {c : Counter} {f : ℕ} {table : List ℕ} → s.below ≡ c → c.next ≡ f → s.table ≡ table →
    (k : ℕ) → unreserved s k ≡ except (from f) table k
unreserved_from below next table k = simp (below, next, table)

abbrev none_below : Set → ℕ → Bool
none_below s zero = true
none_below s (suc n) = not (s n) && none_below s n

-- m is the least of s: at a set that is written out, `refl` shows it
abbrev pub is_least : Set → ℕ → Bool
is_least s m = s m && none_below s m

none_below_all : (s : Set) (n : ℕ) → none_below s n ≡ true → (k : ℕ) → k < n → s k ≡ false
none_below_all s zero h k l = absurd (omega arith)
none_below_all s (suc n) h k l = let rest = none_below_all s n in let k-below = rest (grind arith) k in grind (arith, nat_tests)

-- there is one least mark
pub only_least : {s t : Set} {r : Result ℕ Exhausted} → LeastOf s r t → (m : ℕ) {free : Set} → ((k : ℕ) → s k ≡ free k) →
    is_least free m ≡ true → (r ≡ Ok m) × ((k : ℕ) → t k ≡ without free m k)
only_least {r = Ok n} (is_free, none-less, rest) m {free = free} is shown =
    let is-n = is n in
    let is_m = is m in
    let not-less = none_below_all free m (grind arith) n in
    let not_more = none-less m in
    let equal : n ≡ m = grind (arith, nat_tests) in
    (ap Ok equal, λ k. let is-k = is k in let rest-k = rest k in grind (arith, nat_tests))
only_least {r = Err e} (none, _, _) m {free = free} is shown =
    let none-m = none m in
    let is_m = is m in
    absurd (grind arith)

-- the same of what a draw from the layer answers
pub draws_least : (s t : Reserved Counter) (r : Result ℕ Exhausted) → DrawsLeast s r t →
    (free : Set) (m : ℕ) → ((k : ℕ) → unreserved s k ≡ free k) → is_least free m ≡ true → (r ≡ Ok m) × ((k : ℕ) → unreserved t k ≡ without free m k)
draws_least s t r least_of free m is shown = only_least least_of m is shown
