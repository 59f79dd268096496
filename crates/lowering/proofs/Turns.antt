-- One turn of a loop.
use Rattle.std.proofs.Common.{◌≡◌, ℕ, ◌+◌, ◌<◌, ◌≤◌, Bool, true, false, cond, List, [], ◌∷◌, ◌++◌, map, length, get_or, take, drop, set, filter, sym, ap, ◌∙◌, arith}
use Rattle.std.proofs.lemmas.List.{at_drop_more, at_drop_all, take_more_set, drop-set-lt, map_push, append_assoc, append-nil, take_all}

-- what a recursion over the rest of a list gives, with the item that the turn reads
pub at_drop_item : {X Y : Type 0} (F : List X → Y) (xs : List X) (i : ℕ) (x : X) → i < length xs → x ≡ get_or xs i x →
    F (drop i xs) ≡ F (x ∷ drop (i + 1) xs)
at_drop_item F xs i x h is = at_drop_more F xs i x h ∙ ap (λ y. F (y ∷ drop (i + 1) xs)) (sym is)

-- how many of a list pass a test, one more looked at
pub kept_length : {X : Type 0} (p : X → Bool) (x : X) (xs : List X) → length (filter p (x ∷ xs)) ≡ cond (p x) 1 0 + length (filter p xs)
kept_length p x xs =
    elim (p x) as (λ b. length (cond b (x ∷ filter p xs) (filter p xs)) ≡ cond b 1 0 + length (filter p xs)) [
      | true ↦ omega arith
      | false ↦ omega arith
    ]

-- one item of a list is written anew, and going on from there gives the same
pub written_more : {X Z : Type 0} (f : X → Z) (G H : List Z → List Z) (xs : List X) (i : ℕ) (x y : X) (whole : List Z) →
    i < length xs → x ≡ get_or xs i x → ((rest : List Z) → G (f x ∷ rest) ≡ f y ∷ H rest) →
    map f (take i xs) ++ G (map f (drop i xs)) ≡ whole →
    map f (take (i + 1) (set xs i y)) ++ H (map f (drop (i + 1) (set xs i y))) ≡ whole
written_more f G H xs i x y whole h is turn same =
    let front = take_more_set xs i y h in
    let back = drop-set-lt (i + 1) xs i y (omega arith) in
    let here = at_drop_item (λ zs. G (map f zs)) xs i x h is in
    rw (front, back, map_push, append_assoc)
    (ap (λ zs. map f (take i xs) ++ zs) (sym (turn (map f (drop (i + 1) xs))) ∙ sym here) ∙ same)

-- at the end all are written
pub written_all : {X Z : Type 0} (f : X → Z) (G : List Z → List Z) (xs : List X) (i : ℕ) (whole : List Z) → length xs ≤ i → G [] ≡ [] →
    map f (take i xs) ++ G (map f (drop i xs)) ≡ whole → map f xs ≡ whole
written_all f G xs i whole h none same =
    let all = take_all i xs h in
    let rest = at_drop_all (λ zs. G (map f zs)) xs i h in
    sym (append-nil (map f xs)) ∙ (ap (λ zs. map f zs ++ []) (sym all) ∙ (ap (λ zs. map f (take i xs) ++ zs) (sym none ∙ sym rest) ∙ same))

-- at the end all is appended
pub appended_all : {X Y : Type 0} (F : List X → List Y) (xs : List X) (i : ℕ) (rows whole : List Y) →
    length xs ≤ i → F [] ≡ [] → rows ++ F (drop i xs) ≡ whole → rows ≡ whole
appended_all F xs i rows whole h none same =
    sym (append-nil rows) ∙ (ap (λ zs. rows ++ zs) (sym none ∙ sym (at_drop_all F xs i h)) ∙ same)
