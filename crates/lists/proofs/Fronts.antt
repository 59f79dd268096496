-- The front of a list to which things are appended.
use Rattle.std.proofs.Common.{◌≡◌, ℕ, zero, suc, List, [], ◌∷◌, ◌++◌, take, refl, ap}

-- what is cut off before is cut off after
pub take_append : {X : Type 0} (n : ℕ) (xs ys : List X) → take n (take n xs ++ ys) ≡ take n (xs ++ ys)
take_append zero xs ys = refl
take_append (suc n) [] ys = refl
take_append (suc n) (x ∷ xs) ys = ap (λ zs. x ∷ zs) (take_append n xs ys)
