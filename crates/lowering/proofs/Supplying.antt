-- What a call for several marks leaves in a table.
use Rattle.std.proofs.Common.{◌≡◌, ℕ, ◌≤◌, min, List, ◌++◌, length, take, Ok, Result, sym, ap, ◌∙◌, subst, arith}
use lib.Seq.{take-append-le}
use Rattle.std.proofs.lemmas.Bool.Decides.{nat_tests}
use Rattle.marks.specs.declared.source.Exhausted.{Exhausted}
use Rattle.marks.specs.Chains.{Drawn}
use Rattle.marks.specs.Sets.{Set}
use Rattle.marks.specs.Sizes.{size}
use Rattle.marks.specs.Takes.{Takes, report}
use Rattle.lowering.specs.Supplies.{Given}

enough : (n k : ℕ) → Ok tt ≡ report n k → n ≤ k
enough n k e = grind (arith, nat_tests)

-- An accepted call for n leaves xs in the first places, and ys stands behind them.
module _ {S : Type 0} (free : S → Set) (steps : S → Result ℕ Exhausted → S → Type 0) (s t : S) where
  pub given : (n : ℕ) (xs ys : List ℕ) → length xs ≡ n → Ok tt ≡ report n (size (free s)) →
      Takes (free s) (take (min n (size (free s))) xs) (free t) →
      Drawn steps (take (min n (size (free s))) xs) s t → (total : ℕ) → n ≡ total → Given free steps (take total (xs ++ ys)) s t
  given n xs ys long e takes drawn total is =
      let k = size (free s) in
      let all = enough n k e in
      let least : min n k ≡ total = omega arith in
      let inside : total ≤ length xs = omega arith in
      let same : take (min n k) xs ≡ take total (xs ++ ys) = ap (λ i. take i xs) least ∙ sym (take-append-le total xs ys inside) in
      record { takes = subst (λ ms. Takes (free s) ms (free t)) same takes; drawn = subst (λ ms. Drawn steps ms s t) same drawn }
