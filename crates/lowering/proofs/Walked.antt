-- One member of a walk.
use Rattle.std.proofs.Common.{◌≡◌, ℕ, suc, ◌+◌, ◌<◌, Bool, true, false, cond, List, [], ◌∷◌, ◌++◌, map, length, get_or, take, drop, set, count_by, Some, None, Option, sym, refl, ap, ◌∙◌, append_assoc, add-one, arith}
use Rattle.std.proofs.lemmas.Grind.{drop_more_same}
use Rattle.std.proofs.lemmas.Bool.{and_parts}
use Rattle.std.proofs.lemmas.List.{at_drop_more, drop_more, get_or-set_same, take_more_set, drop-set-lt, map_push}
use Rattle.std.proofs.lemmas.List.Sums.{sum_by-cons}
use Rattle.sheet.specs.Seen.{Seen}
use Rattle.rules.specs.declared.naming.Stem.{Stem}
use Rattle.rules.specs.declared.naming.Name.{Name}
use Rattle.rules.specs.declared.describing.Assignment.{Assignment}
use Rattle.rules.specs.declared.forming.Held.{Held}
use Rattle.rules.specs.declared.forming.Made.{Made}
use Rattle.rules.specs.declared.treating.Starters.{Starters}
use Rattle.rules.specs.Members.{accessor}
use Rattle.rules.specs.Draws.{Drawing, starters_after, first_stems, second_stems, third_stems, drawings, for_each, for_second_walk}
use Rattle.rules.specs.Walks.{Item, item_of, first_item, first_walk, member_assignments, assignments_from, second_item, second_walk, number_after, third_item, third_walk}
use Rattle.lowering.specs.Hands.{is_written, all_written}
use Rattle.lowering.specs.Items.{members_of}
use Rattle.lowering.specs.Left.{after}
use Rattle.lowering.proofs.Left.{ReadsOn, after_append, after_map, at_after, first_walk_on, assignments_on, second_walk_on, third_walk_on}

-- The names of the member m are drawn, the first of ms, whose number is i.
module _ (i : ℕ) (m : Seen) (ms rest : List Seen) (marks next whole : List ℕ) (are : ms ≡ m ∷ rest) where
  one_left : (stems : List Stem) (others : List Drawing) → after (drawings i stems ++ others) marks ≡ after others (after stems marks)
  one_left stems others =
      let named : Stem → Drawing = λ stem. record { whose = i; stem = stem } in
      after_append (drawings i stems) others marks ∙ ap (after others) (after_map named stems marks)

  pub each_left : (F : Seen → List Stem) → next ≡ after (F m) marks →
      after (for_each F i ms) marks ≡ whole → after (for_each F (i + 1) rest) next ≡ whole
  each_left F drawn same =
      let number = add-one i in
      let one = one_left (F m) (for_each F (suc i) rest) in
      let all = ap (for_each F i) are in
      cc

  pub second_left : (s t : Starters) → t ≡ starters_after s m → next ≡ after (second_stems s m) marks →
      after (for_second_walk s i ms) marks ≡ whole → after (for_second_walk t (i + 1) rest) next ≡ whole
  second_left s t starters drawn same =
      let number = add-one i in
      let one = one_left (second_stems s m) (for_second_walk (starters_after s m) (suc i) rest) in
      let all = ap (for_second_walk s i) are in
      cc

-- A walk makes ys of the next member, after those that are done, and goes on as G with what is left.
goes_on : {X Y : Type 0} (G : List ℕ → ℕ → List Y) → ReadsOn G → (stems : List X) (marks next : List ℕ) (done new left ys whole : List Y) →
    left ≡ ys ++ G marks (0 + length stems) → next ≡ after stems marks → new ≡ done ++ ys → done ++ left ≡ whole → new ++ G next 0 ≡ whole
goes_on G reads stems marks next done new left ys whole turn drawn pushed same =
    let on = at_after G reads stems marks in
    let together = append_assoc done ys (G next 0) in
    cc

module _ (marks next : List ℕ) where
  pub first_turn : (done new whole : List Item) (y : Item) (m : Seen) (ms rest : List Seen) →
      new ≡ done ++ y ∷ [] → ms ≡ m ∷ rest → y ≡ first_item marks 0 m → next ≡ after (first_stems m) marks →
      done ++ first_walk marks 0 ms ≡ whole → new ++ first_walk next 0 rest ≡ whole
  first_turn done new whole y m ms rest pushed are made drawn =
      let stems = first_stems m in
      let turn = ap (first_walk marks 0) are ∙ ap (λ z. z ∷ first_walk marks (0 + length stems) rest) (sym made) in
      goes_on (λ zs k. first_walk zs k rest) (first_walk_on rest) stems marks next done new _ (y ∷ []) whole turn drawn pushed

  pub rows_turn : (done new whole : List Assignment) (m : Seen) (ms rest : List Seen) →
      new ≡ done ++ member_assignments marks 0 m → ms ≡ m ∷ rest → next ≡ after (first_stems m) marks →
      done ++ assignments_from marks 0 ms ≡ whole → new ++ assignments_from next 0 rest ≡ whole
  rows_turn done new whole m ms rest pushed are drawn =
      let turn = ap (assignments_from marks 0) are in
      goes_on (λ zs k. assignments_from zs k rest) (assignments_on rest) (first_stems m) marks next done new _ _ whole turn drawn pushed

  pub second_turn : (s t : Starters) (n o : ℕ) (done new whole : List Item) (x y : Item) (left rest : List Item) →
      new ≡ done ++ y ∷ [] → left ≡ x ∷ rest → y ≡ second_item s n marks 0 x → t ≡ starters_after s x.member → o ≡ number_after x.member n →
      next ≡ after (second_stems s x.member) marks →
      done ++ second_walk s n marks 0 left ≡ whole → new ++ second_walk t o next 0 rest ≡ whole
  second_turn s t n o done new whole x y left rest pushed are made starters number drawn =
      let stems = second_stems s x.member in
      let turn : second_walk s n marks 0 left ≡ y ∷ second_walk t o marks (0 + length stems) rest =
      ap (second_walk s n marks 0) are ∙ rw (made, starters, number) in
      goes_on (λ zs k. second_walk t o zs k rest) (second_walk_on t o rest) stems marks next done new _ (y ∷ []) whole turn drawn pushed

  pub third_turn : (done new whole : List Item) (x y : Item) (left rest : List Item) →
      new ≡ done ++ y ∷ [] → left ≡ x ∷ rest → y ≡ third_item marks 0 x → next ≡ after (third_stems x.member) marks →
      done ++ third_walk marks 0 left ≡ whole → new ++ third_walk next 0 rest ≡ whole
  third_turn done new whole x y left rest pushed are made drawn =
      let stems = third_stems x.member in
      let turn = ap (third_walk marks 0) are ∙ ap (λ z. z ∷ third_walk marks (0 + length stems) rest) (sym made) in
      goes_on (λ zs k. third_walk zs k rest) (third_walk_on rest) stems marks next done new _ (y ∷ []) whole turn drawn pushed

-- The one at i of a list is written.
module _ {X Z : Type 0} (f : X → Z) (xs : List X) (i : ℕ) (d y : X) (within : i < length xs) where
  pub written_front : map f (take (i + 1) (set xs i y)) ≡ map f (take i xs) ++ f y ∷ []
  written_front = ap (map f) (take_more_set xs i y within) ∙ map_push f (take i xs) y

  pub written_back : map f (drop i xs) ≡ f (get_or xs i d) ∷ map f (drop (i + 1) (set xs i y))
  written_back =
      let behind = drop-set-lt (i + 1) xs i y (omega arith) in
      at_drop_more (map f) xs i d within ∙ ap (λ zs. f (get_or xs i d) ∷ map f zs) (sym behind)

-- the row that was written is the one that is read
pub written_read : {X : Type 0} (xs : List X) (i : ℕ) (y z : X) → i < length xs → z ≡ get_or (set xs i y) i z → z ≡ y
written_read xs i y z h is = is ∙ get_or-set_same xs i y z h

-- Walk 1 goes on with the members that are not written yet.
pub left_item : {X : Type 0} (rows hs : List X) (i : ℕ) (d : X) → i < length rows → drop i rows ≡ drop i hs →
    drop i hs ≡ get_or rows i d ∷ drop (i + 1) hs
left_item rows hs i d within same =
    sym same ∙ (drop_more rows i d within ∙ ap (λ zs. get_or rows i d ∷ zs) (drop_more_same rows hs i same))

pub key_written : (k : Option Name) → is_written k ≡ true → k ≡ None
key_written None h = refl
key_written (Some name) h = cc

pub first_written : (hs : List Held) (x : Held) (rest : List Held) → hs ≡ x ∷ rest → all_written hs ≡ true → x.key ≡ None
first_written hs x rest is all = key_written x.key (and_parts (is_written x.key) (all_written rest) (sym (ap all_written is) ∙ all)).0

pub rest_written : (hs : List Held) (x : Held) (rest : List Held) → hs ≡ x ∷ rest → all_written hs ≡ true → all_written rest ≡ true
rest_written hs x rest is all = (and_parts (is_written x.key) (all_written rest) (sym (ap all_written is) ∙ all)).1

number_cond : (b : Bool) (n : ℕ) → cond b (n + 1) n ≡ n + cond b 1 0
number_cond true n = refl
number_cond false n = omega arith

-- the numbers that are still to be given, with the member m first
pub numbers_more : (n : ℕ) (m : Seen) (ms : List Seen) → n + count_by accessor (m ∷ ms) ≡ number_after m n + count_by accessor ms
numbers_more n m ms = omega (arith, sum_by-cons (λ x. cond (accessor x) 1 0) m ms, number_cond (accessor m) n)

-- The walks leave the members as they are.
pub first_members : (marks : List ℕ) (k : ℕ) (ms : List Seen) → members_of (first_walk marks k ms) ≡ ms
first_members marks k [] = refl
first_members marks k (m ∷ ms) = ap (λ xs. m ∷ xs) (first_members marks (k + length (first_stems m)) ms)

pub second_members : (s : Starters) (n : ℕ) (marks : List ℕ) (k : ℕ) (is : List Item) →
    members_of (second_walk s n marks k is) ≡ members_of is
second_members s n marks k [] = refl
second_members s n marks k (i ∷ is) =
    let m = i.member in
    ap (λ xs. m ∷ xs) (second_members (starters_after s m) (number_after m n) marks (k + length (second_stems s m)) is)

pub third_members : (marks : List ℕ) (k : ℕ) (is : List Item) → members_of (third_walk marks k is) ≡ members_of is
third_members marks k [] = refl
third_members marks k (i ∷ is) = ap (λ xs. i.member ∷ xs) (third_members marks (k + length (third_stems i.member)) is)

abbrev pub is_accessor : Made → Bool
is_accessor x = accessor (item_of x).member

counted_map : {X Y : Type 0} (f : X → Y) (p : Y → Bool) (xs : List X) → count_by (λ x. p (f x)) xs ≡ count_by p (map f xs)
counted_map f p [] = refl
counted_map f p (x ∷ xs) =
    omega (arith, counted_map f p xs, sum_by-cons (λ y. cond (p (f y)) 1 0) x xs, sum_by-cons (λ y. cond (p y) 1 0) (f x) (map f xs))

-- the rows that walk 1 makes have as many accessors as the members in hand
pub accessors_walked : (rows : List Made) (marks : List ℕ) (k : ℕ) (ms : List Seen) →
    map item_of rows ≡ first_walk marks k ms → count_by is_accessor rows ≡ count_by accessor ms
accessors_walked rows marks k ms walked =
    let member : Item → Seen = λ i. i.member in
    let test : Item → Bool = λ i. accessor i.member in
    counted_map item_of test rows
    ∙ (counted_map member accessor (map item_of rows)
    ∙ ap (count_by accessor) (ap (map member) walked ∙ first_members marks k ms))
