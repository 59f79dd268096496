-- How many places of a table a call for several marks writes.
use Rattle.std.proofs.Common.{◌≡◌, ℕ, ◌<◌, ◌≤◌, min, cond, List, length, take, drop, Ok, Err, Result, sym, ap, ◌∙◌, subst, arith}
use Rattle.std.proofs.lemmas.List.{length-take}
use Rattle.std.proofs.lemmas.Bool.{le-leb, lt-leb}
use Rattle.marks.specs.declared.source.Exhausted.{Exhausted}
use Rattle.marks.specs.Sets.{Set, Draws}
use Rattle.marks.specs.Sizes.{size}
use Rattle.marks.specs.Takes.{Takes, report}
use Rattle.marks.proofs.Taking.{takes_all}

-- so many places are written, as many as are asked for and free: all of them
pub written_filled : (n i : ℕ) (s : Set) (xs : List ℕ) (t : Set) → length xs ≡ n → n ≤ i → i ≤ n → Takes s (take i xs) t → i ≡ min n (size s)
written_filled n i s xs t long low high taken =
    let size_is = taken.fewer in
    let short = length-take i xs in
    omega arith

-- or as many as there were
pub written_stopped : (n i : ℕ) (s u t : Set) (e : Exhausted) (xs : List ℕ) → length xs ≡ n → i < n → Takes s (take i xs) u → Draws u (Err e) t →
    i ≡ min n (size s)
written_stopped n i s u t e xs long less taken drawn =
    let (all, count) = takes_all s (take i xs) u t e taken drawn in
    let short = length-take i xs in
    omega arith

-- What a call for n leaves, where k are free: so many places are written.
pub record Filled (n : ℕ) (s : Set) (r : Result (Unit {0}) Exhausted) (xs ys : List ℕ) (t : Set) : Type 0 where
  pub answers : r ≡ report n (size s)
  pub takes : Takes s (take (min n (size s)) xs) t
  pub rest : drop (min n (size s)) xs ≡ drop (min n (size s)) ys

filled_at : (n i : ℕ) (s : Set) (r : Result (Unit {0}) Exhausted) (xs ys : List ℕ) (t : Set) → i ≡ min n (size s) → r ≡ report n (size s) →
    Takes s (take i xs) t → drop i xs ≡ drop i ys → Filled n s r xs ys t
filled_at n i s r xs ys t is answers taken same = record {
  answers = answers;
  takes = subst (λ j. Takes s (take j xs) t) is taken;
  rest = subst (λ j. drop j xs ≡ drop j ys) is same;
}

-- all of them
pub filled : (n i : ℕ) (s : Set) (xs ys : List ℕ) (t : Set) → length xs ≡ n → n ≤ i → i ≤ n → Takes s (take i xs) t → drop i xs ≡ drop i ys →
    Filled n s (Ok tt) xs ys t
filled n i s xs ys t long low high taken same =
    let written = written_filled n i s xs t long low high taken in
    let enough : n ≤ size s = omega arith in
    filled_at n i s (Ok tt) xs ys t written
    (sym (ap (λ b. cond b (Ok tt) (Err (record { drawn = size s }))) (le-leb n (size s) enough))) taken same

-- or as many as there were
pub stopped : (n i : ℕ) (s u t : Set) (e : Exhausted) (xs ys : List ℕ) → length xs ≡ n → i < n → Takes s (take i xs) u → Draws u (Err e) t →
    drop i xs ≡ drop i ys → Filled n s (Err (record { drawn = i })) xs ys t
stopped n i s u t e xs ys long less taken drawn same =
    let (all, count) = takes_all s (take i xs) u t e taken drawn in
    let short = length-take i xs in
    let is : i ≡ size s = omega arith in
    filled_at n i s (Err (record { drawn = i })) xs ys t (written_stopped n i s u t e xs long less taken drawn)
    (ap (λ k. Err (record { drawn = k })) is ∙ sym (ap (λ b. cond b (Ok tt) (Err (record { drawn = size s }))) (lt-leb n (size s) (omega arith)))) all same
