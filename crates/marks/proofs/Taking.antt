-- Marks that are drawn one after another into the places of a table.
use Rattle.std.proofs.Common.{◌≡◌, ℕ, ◌+◌, ◌<◌, false, List, [], ◌∷◌, ◌++◌, length, take, drop, set, Ok, Err, Result, is_ok, sym, refl, ap, ◌∙◌, subst, arith}
use Rattle.std.proofs.lemmas.List.{length_push, take_more_set, drop-set-lt, drop-drop}
use Rattle.std.proofs.lemmas.Bool.Decides.{nat_tests}
use Rattle.std.proofs.lemmas.Grind.{common_steps}
use Rattle.marks.specs.declared.source.Exhausted.{Exhausted}
use Rattle.marks.specs.Among.{among_push}
use Rattle.marks.specs.Chains.{Drawn, Several}
use Rattle.marks.specs.Sets.{Set, mark, among, except, Within, Draws}
use Rattle.marks.specs.Sizes.{size}
use Rattle.marks.specs.Takes.{Once, Takes}
use Rattle.marks.proofs.Counts.{size_draw, size_none}

once_push : (xs : List ℕ) (x : ℕ) → Once xs → among xs x ≡ false → Once (xs ++ x ∷ [])
once_push [] x h n = (refl, tt)
once_push (y ∷ ys) x (n, h) e =
    let pushed = among_push ys x y in
    (grind (arith, nat_tests), once_push ys x h (grind (arith, nat_tests)))

pub takes_push : (s : Set) (ms : List ℕ) (u t : Set) (m : ℕ) → Within u mark → Takes s ms u → Draws u (Ok m) t → Takes s (ms ++ m ∷ []) t
takes_push s ms u t m within taken (is_free, left) =
    let at-m = taken.rest m in
    record {
      once = once_push ms m taken.once (grind arith);
      free = λ k h. let pushed = among_push ms m k in let before = taken.free k in grind (arith, nat_tests);
      rest = λ k. let pushed = among_push ms m k in let before = taken.rest k in let after = left k in grind (arith, nat_tests);
      fewer = omega (arith, taken.fewer, length_push ms m, size_draw u t m within (is_free, left));
    }

-- The marks go into a table: one more of its places is written.
pub takes_set : (s u t : Set) (xs : List ℕ) (i m : ℕ) → i < length xs → Within u mark → Takes s (take i xs) u → Draws u (Ok m) t →
    Takes s (take (i + 1) (set xs i m)) t
takes_set s u t xs i m inside within taken drawn =
    subst (λ ms. Takes s ms t) (sym (take_more_set xs i m inside)) (takes_push s (take i xs) u t m within taken drawn)

pub rest_set : (xs ys : List ℕ) (i m : ℕ) → drop i xs ≡ drop i ys → drop (i + 1) (set xs i m) ≡ drop (i + 1) ys
rest_set xs ys i m same =
    drop-set-lt (i + 1) xs i m (omega arith) ∙ (sym (drop-drop 1 i xs) ∙ (ap (drop 1) same ∙ drop-drop 1 i ys))

-- A refusal comes where all are taken.
pub takes_all : (s : Set) (ms : List ℕ) (u t : Set) (e : Exhausted) → Takes s ms u → Draws u (Err e) t → Takes s ms t × (size s ≡ length ms)
takes_all s ms u t e taken (none, none_after, _) =
    let all : size s ≡ length ms = omega (arith, taken.fewer, size_none u none) in
    let rest : (k : ℕ) → t k ≡ except s ms k = λ k. let before = taken.rest k in let was = none k in let now = none_after k in cc in
    (record { once = taken.once; free = taken.free; rest = rest; fewer = omega (arith, size_none t none_after) }, all)

module _ {S : Type 0} (steps : S → Result ℕ Exhausted → S → Type 0) where
  pub drawn_push : (ms : List ℕ) (m : ℕ) (s u t : S) → Drawn steps ms s u → steps u (Ok m) t → Drawn steps (ms ++ m ∷ []) s t
  drawn_push [] m s u t same step = (t, rw same step, refl)
  drawn_push (k ∷ ms) m s u t (v, first, others) step = (v, first, drawn_push ms m v u t others step)

  -- the same for the chain of the draws
  pub drawn_set : (xs : List ℕ) (i m : ℕ) (s u t : S) → i < length xs → Drawn steps (take i xs) s u → steps u (Ok m) t →
      Drawn steps (take (i + 1) (set xs i m)) s t
  drawn_set xs i m s u t inside before step =
      subst (λ ms. Drawn steps ms s t) (sym (take_more_set xs i m inside)) (drawn_push (take i xs) m s u t before step)

-- The first i places of xs hold what was drawn from s, in the order of the draws, and u is left. The other places are as in ys.
pub record DrawnInto {S : Type 0} (free : S → Set) (steps : S → Result ℕ Exhausted → S → Type 0)
    (s : S) (ys : List ℕ) (i : ℕ) (xs : List ℕ) (u : S) : Type 0 where
  pub takes : Takes (free s) (take i xs) (free u)
  pub rest : drop i xs ≡ drop i ys
  pub drawn : Drawn steps (take i xs) s u

module _ {S : Type 0} {free : S → Set} {steps : S → Result ℕ Exhausted → S → Type 0} (marks : (s : S) → Within (free s) mark)
    (draws : (s : S) (r : Result ℕ Exhausted) (t : S) → steps s r t → Draws (free s) r (free t)) where
  -- one draw more, into the next place
  pub one_more : {s u t : S} {ys xs : List ℕ} {i m : ℕ} {r : Result ℕ Exhausted} → i < length xs →
      DrawnInto free steps s ys i xs u → r ≡ Ok m → steps u r t → DrawnInto free steps s ys (i + 1) (set xs i m) t
  one_more {s = s} {u = u} {t = t} {ys = ys} {xs = xs} {i = i} {m = m} inside before is step =
      let drawn = rw is at step in
      record {
        takes = takes_set (free s) (free u) (free t) xs i m inside (marks u) before.takes (draws u (Ok m) t drawn);
        rest = rest_set xs ys i m before.rest;
        drawn = drawn_set steps xs i m s u t inside before.drawn drawn;
      }

  -- A draw is refused where all are taken, and takes nothing.
  pub no_more : {s u t : S} {ys xs : List ℕ} {i : ℕ} {r : Result ℕ Exhausted} → i < length xs →
      DrawnInto free steps s ys i xs u → is_ok r ≡ false → steps u r t →
      (size (free s) ≡ i) × Takes (free s) (take i xs) (free t) × Several steps (Err (record { drawn = i })) (take i xs) s t
  no_more {r = Ok m} inside before is step = absurd cc
  no_more {s = s} {u = u} {t = t} {xs = xs} {i = i} {r = Err e} inside before is step =
      let refused = draws u (Err e) t step in
      let (taken, all) = takes_all (free s) (take i xs) (free u) (free t) e before.takes refused in
      (grind (arith, common_steps), taken, (u, before.drawn, rw refused.2 at step))
