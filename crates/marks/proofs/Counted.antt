-- What is drawn from a counter, and how many marks are free in it.
use Rattle.std.proofs.Common.{◌≡◌, ℕ, zero, suc, ◌+◌, ◌-◌, ◌%◌, ◌≤◌, Bool, true, false, cond, eqb, List, [], ◌∷◌, length, Ok, Err, Result, refl, ap, arith, rules}
use Rattle.std.proofs.lemmas.Bool.{eqb-true, eqb-false}
use Rattle.std.proofs.lemmas.Bool.Decides.{nat_tests}
use Rattle.marks.specs.declared.counting.Counter.{Counter}
use Rattle.marks.specs.declared.source.Exhausted.{Exhausted}
use Rattle.marks.specs.Chains.{Drawn}
use Rattle.marks.specs.Counters.{from, counter_free, CounterSteps, run_from, Counts}
use Rattle.marks.specs.Sets.{Draws}
use Rattle.marks.specs.Sizes.{count, size}

-- what a counter gives is the number that it stands at
pub record Given (f m g : ℕ) : Type 0 where
  pub is : m ≡ f
  pub some : 1 ≤ f
  pub small : f ≤ 65535
  pub next : g ≡ (f + 1) % 65536

pub counted : (f m g : ℕ) → Counts f (Ok m) g → Given f m g
counted f m g (small, is, next) = by (eqb f 0) refl is next
  where
    by : (b : Bool) → eqb f 0 ≡ b → ◌≡◌ {A = Result ℕ Exhausted} (Ok m) (cond b (Err (record { drawn = 0 })) (Ok f)) → g ≡ cond b 0 ((f + 1) % 65536) → Given f m g
    by true h is next = let z : ◌≡◌ {A = ℕ} 0 1 = cc in absurd (omega arith)
    by false h is next =
        let not-zero = eqb-false f 0 h in
        record { is = cc; some = grind (arith, nat_tests); small = small; next = next }

-- it refuses where it stands at 0
record Ended (f : ℕ) (e : Exhausted) (g : ℕ) : Type 0 where
  none : f ≡ 0
  still : g ≡ 0
  first : e.drawn ≡ 0

ended : (f : ℕ) (e : Exhausted) (g : ℕ) → Counts f (Err e) g → Ended f e g
ended f e g (small, is, next) = by (eqb f 0) refl is next
  where
    by : (b : Bool) → eqb f 0 ≡ b → ◌≡◌ {A = Result ℕ Exhausted} (Err e) (cond b (Err (record { drawn = 0 })) (Ok f)) → g ≡ cond b 0 ((f + 1) % 65536) → Ended f e g
    by true h is next =
        let same : e ≡ record { drawn = 0 } = cc in
        record { none = eqb-true f 0 h; still = next; first = ap (λ (x : Exhausted). x.drawn) same }
    by false h is next = let z : ◌≡◌ {A = ℕ} 0 1 = cc in absurd (omega arith)

pub counts_draws : (s : Counter) (r : Result ℕ Exhausted) (t : Counter) → CounterSteps s r t → Draws (counter_free s) r (counter_free t)
counts_draws s r t h = search rules

count_from : (f n : ℕ) → 1 ≤ f → n ≤ 65536 → count (from f) n ≡ n - f
unfolding count
count_from f zero some small = omega arith
count_from f (suc n) some small = let rest = count_from f n some (omega arith) in grind (arith, nat_tests)

pub size_from : (f : ℕ) → 1 ≤ f → f ≤ 65536 → size (from f) ≡ 65536 - f
unfolding size
size_from f some small = count_from f 65536 some (omega arith)

-- After 65,535 the counter stands at 0, where it gives nothing, so a mark that follows another is one more than that.
pub drawn_in_order : (c d : Counter) (ms : List ℕ) → Drawn CounterSteps ms c d → ms ≡ run_from c.next (length ms)
drawn_in_order c d [] same = refl
drawn_in_order c d (m ∷ []) (u, step, same) = grind (arith, nat_tests)
drawn_in_order c d (m ∷ k ∷ ms) (u, step, (v, step_after, others)) =
    let rest = drawn_in_order u d (k ∷ ms) (v, step_after, others) in
    grind (arith, nat_tests)
