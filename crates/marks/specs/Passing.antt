-- What passing over the marks of a table leaves free.
use Rattle.std.specs.Prelude.{◌≡◌, ℕ, List, [], ◌∷◌, Ok, Err, Result}
use Rattle.std.proofs.Common.{sym, ap, arith}
use Rattle.std.proofs.lemmas.Bool.Decides.{nat_tests}
use Rattle.marks.specs.declared.source.Exhausted.{Exhausted}
use Rattle.marks.specs.Sets.{Set, except, Draws}
use Rattle.marks.specs.Skips.{Skipped, Skips}

module _ {S : Type 0} (free : S → Set) (steps : S → Result ℕ Exhausted → S → Type 0)
    (draws : (s : S) (r : Result ℕ Exhausted) (t : S) → steps s r t → Draws (free s) r (free t)) (table : List ℕ) where
  pub skipped_same : (ms : List ℕ) (s t : S) → Skipped steps table ms s t → (k : ℕ) → except (free t) table k ≡ except (free s) table k
  skipped_same [] s t e k = ap (λ u. except (free u) table k) (sym e)
  skipped_same (m ∷ ms) s t (u, before, step, reserved) k =
      let same = skipped_same ms s u before k in
      let taken = (draws u (Ok m) t step).1 k in
      grind (arith, nat_tests)

  pub skips_draws : (s : S) (r : Result ℕ Exhausted) (t : S) → Skips steps table s r t →
      Draws (except (free s) table) r (except (free t) table)
  skips_draws s (Ok m) t (ms, u, before, step, passes) =
      let same = skipped_same ms s u before in
      let drawn = draws u (Ok m) t step in
      (let at-m = same m in grind (arith, nat_tests), λ k. let at-k = same k in let after = drawn.1 k in grind (arith, nat_tests))
  skips_draws s (Err e) t (ms, u, before, step, _) =
      let same = skipped_same ms s u before in
      let drawn = draws u (Err e) t step in
      (λ k. let at-k = same k in let none = drawn.0 k in grind arith, λ k. let none = drawn.1 k in grind arith, drawn.2)
