-- The set of a list's numbers.
use Rattle.std.specs.Prelude.{◌≡◌, ℕ, ◌||◌, List, [], ◌∷◌, ◌++◌, Decides, ◌==◌, nat_eq, refl}
use Rattle.std.specs.List.{ContainsAt as Has}
use Rattle.std.proofs.Common.{arith}
use Rattle.std.proofs.lemmas.Bool.Decides.{Decides-by_or, Decides-eqb}
use Rattle.std.proofs.lemmas.List.Folds.{list_any-append}
use Rattle.marks.specs.Sets.{among}

pub decides_among : (xs : List ℕ) (k : ℕ) → Decides (among xs k) (Has xs k)
decides_among xs k = Decides-by_or (λ x. nat_eq x k) (λ x. x ≡ k) (λ ys. among ys k) (λ x. Decides-eqb x k) refl (λ _ _. refl) xs

pub among_push : (xs : List ℕ) (x k : ℕ) → among (xs ++ x ∷ []) k ≡ (among xs k || x == k)
among_push xs x k = let joined = list_any-append (λ y. y == k) xs (x ∷ []) in grind arith
