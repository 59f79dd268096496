-- What a list has still to give.
use Rattle.std.specs.Prelude.{◌≡◌, ℕ, ◌+◌, ◌<◌, ◌≤◌, true, false, cond, not, ◌&&◌, List, [], ◌∷◌, ◌++◌, length, take, drop, slice_index_or, refl}
use Rattle.std.specs.Prelude.{Ok, Err, Result}
use Rattle.std.proofs.Common.{arith, ◌∙◌}
use Rattle.std.proofs.lemmas.List.{take_more, at_drop_more, at_drop_all}
use Rattle.std.proofs.lemmas.Bool.Decides.{nat_tests}
use Rattle.marks.specs.declared.source.Exhausted.{Exhausted}
use Rattle.marks.specs.Sets.{mark, among, Within, Draws}
use Rattle.marks.specs.Lists.{fresh, left, Gives}
use Rattle.marks.specs.Among.{among_push}

pub fresh_marks : (seen xs : List ℕ) (k : ℕ) → among (fresh seen xs) k ≡ true → mark k ≡ true
fresh_marks seen [] k h = grind arith
fresh_marks seen (x ∷ xs) k h = let rest = fresh_marks (seen ++ x ∷ []) xs k in grind (arith, nat_tests)

pub fresh_unseen : (seen xs : List ℕ) (k : ℕ) → among seen k ≡ true → among (fresh seen xs) k ≡ false
fresh_unseen seen [] k h = refl
fresh_unseen seen (x ∷ xs) k h =
    let more = among_push seen x k in
    let rest = fresh_unseen (seen ++ x ∷ []) xs k in
    grind (arith, nat_tests)

-- what was given is not left
pub fresh_once : (seen xs : List ℕ) (m : ℕ) (ys : List ℕ) → fresh seen xs ≡ m ∷ ys → among ys m ≡ false
fresh_once seen [] m ys h = grind arith
fresh_once seen (x ∷ xs) m ys h =
    let more = among_push seen x x in
    let rest = fresh_unseen (seen ++ x ∷ []) xs x in
    grind (arith, nat_tests)

pub left_none : (xs : List ℕ) (i : ℕ) → length xs ≤ i → left xs i ≡ []
left_none xs i h = at_drop_all (fresh (take i xs)) xs i h

pub left_next : (xs : List ℕ) (i : ℕ) → i < length xs →
    let x = slice_index_or xs i 0 in left xs i ≡ cond (mark x && not (among (take i xs) x)) (x ∷ left xs (i + 1)) []
left_next xs i h = rw (take_more xs i 0 h) (at_drop_more (fresh (take i xs)) xs i 0 h)

-- the same, where x is what the list has after its first i
pub left_at : (xs : List ℕ) (i x : ℕ) → i < length xs → x ≡ slice_index_or xs i x →
    left xs i ≡ cond (mark x && not (among (take i xs) x)) (x ∷ left xs (i + 1)) []
left_at xs i x h is = rw (take_more xs i x h, ← is) (at_drop_more (fresh (take i xs)) xs i x h ∙ rw (← is))

pub left_marks : (xs : List ℕ) (i : ℕ) → Within (among (left xs i)) mark
left_marks xs i = fresh_marks (take i xs) (drop i xs)

-- what a list gives is free, and it takes out just that
pub gives_draws : (xs : List ℕ) (i : ℕ) (ys : List ℕ) (r : Result ℕ Exhausted) → Gives (left xs i) r ys →
    Draws (among (left xs i)) r (among ys)
gives_draws xs i ys r h = by (left xs i) (fresh_once (take i xs) (drop i xs)) r h
  where
    by : (ws : List ℕ) → ((m : ℕ) (zs : List ℕ) → ws ≡ m ∷ zs → among zs m ≡ false) → (r : Result ℕ Exhausted) → Gives ws r ys →
        Draws (among ws) r (among ys)
    by [] once (Ok m) (is, left) = absurd cc
    by [] once (Err e) (is, left) = (λ k. refl, λ k. rw left, grind arith)
    by (x ∷ ws) once (Ok m) (is, left) = let new = once x ws refl in (grind (arith, nat_tests), λ k. grind (arith, nat_tests))
    by (x ∷ ws) once (Err e) (is, left) = absurd cc
