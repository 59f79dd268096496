-- A loop that keeps those of a list that pass a test.
use Rattle.std.proofs.Common.{◌≡◌, ℕ, suc, ◌+◌, ◌<◌, ◌≤◌, Bool, true, List, ◌∷◌, ◌++◌, map, length, get_or, take, drop, filter, sym, ap, ◌∙◌, arith}
use Rattle.std.specs.List.{flat_map}
use Rattle.std.proofs.Math.Seq.{split_at}
use Rattle.std.proofs.lemmas.List.{length-append, map-append}
use Rattle.std.proofs.lemmas.List.Concat.{flat_map-append}
use Rattle.std.proofs.lemmas.List.Elements.{filter-append}

-- x stands at i among xs, and passes
module _ {X Z : Type 0} (v : X → Z) (p : Z → Bool) (xs : List X) (i : ℕ) (x : X)
    (within : i < length xs) (is : x ≡ get_or xs i x) (passed : p (v x) ≡ true) where
  kept_split : filter p (map v xs) ≡ filter p (map v (take i xs)) ++ v x ∷ filter p (map v (drop (suc i) xs))
  kept_split =
      let all = split_at xs i x within ∙ ap (λ y. take i xs ++ y ∷ drop (suc i) xs) (sym is) in
      ap (λ ys. filter p (map v ys)) all ∙ simp (map-append, filter-append, passed)

  pub kept_room : length (filter p (map v (take i xs))) < length (filter p (map v xs))
  kept_room = omega (arith, simp length-append at (ap length kept_split))

  pub put_room : {Y : Type 0} (f : Z → List Y) →
      length (flat_map f (filter p (map v (take i xs)))) + length (f (v x)) ≤ length (flat_map f (filter p (map v xs)))
  put_room f = omega (arith, simp (flat_map-append, length-append) at (ap (λ ys. length (flat_map f ys)) kept_split))
