-- The marks that are left.
use Rattle.std.proofs.Common.{◌≡◌, ℕ, suc, ◌+◌, ◌<◌, Bool, List, [], ◌∷◌, ◌++◌, map, length, get_or, drop, refl, sym, ap, ◌∙◌, add_assoc, arith}
use Rattle.std.proofs.lemmas.List.{drop-drop, get_or-drop, at_drop_more, append_assoc}
use Rattle.pieces.specs.declared.parts.Decorator.{Decorator}
use Rattle.sheet.specs.Seen.{Seen}
use Rattle.rules.specs.declared.naming.Stem.{Stem}
use Rattle.rules.specs.declared.forming.MadeForm.{MadeForm}
use Rattle.rules.specs.declared.treating.Starters.{Starters}
use Rattle.rules.specs.declared.treating.Treatment.{Treatment}
use Rattle.rules.specs.declared.treating.Treatment.TheVariants.{Untouched, Stored, DecoratedField, DecoratedAccessor, DecoratedElement}
use Rattle.rules.specs.Members.{treatment, taken}
use Rattle.rules.specs.Draws.{named, due, starters_after, first_stems, second_stems, third_stems}
use Rattle.rules.specs.Walks.{Item, decorations, decorator_assignments, member_assignments, first_item, first_walk, assignments_from, second_form, second_item, second_walk, number_after, third_form, third_item, third_walk}
use Rattle.lowering.specs.Left.{after}

pub after_append : {X : Type 0} (xs ys : List X) (marks : List ℕ) → after (xs ++ ys) marks ≡ after ys (after xs marks)
after_append [] ys marks = refl
after_append (x ∷ xs) ys marks = after_append xs ys (drop 1 marks)

pub after_map : {X Y : Type 0} (f : X → Y) (xs : List X) (marks : List ℕ) → after (map f xs) marks ≡ after xs marks
after_map f [] marks = refl
after_map f (x ∷ xs) marks = after_map f xs (drop 1 marks)

pub after_drop : {X : Type 0} (xs : List X) (marks : List ℕ) → after xs marks ≡ drop (length xs) marks
after_drop [] marks = refl
after_drop (x ∷ xs) marks =
    let more : 1 + length xs ≡ suc (length xs) = omega arith in
    after_drop xs (drop 1 marks) ∙ (drop-drop (length xs) 1 marks ∙ ap (λ n. drop n marks) more)

pub drop_after : {X : Type 0} (xs : List X) (marks now next : List ℕ) (k : ℕ) →
    now ≡ drop k marks → next ≡ after xs now → next ≡ drop (k + length xs) marks
drop_after xs marks now next k is drawn = drawn ∙ (after_drop xs now ∙ (ap (drop (length xs)) is ∙ drop-drop (length xs) k marks))

-- What reads marks from a position on is the same where the marks before that position are gone.
abbrev pub ReadsOn : {Y : Type 0} → (List ℕ → ℕ → Y) → Type 0
ReadsOn F = (marks : List ℕ) (k j : ℕ) → F (drop k marks) j ≡ F marks (k + j)

pub at_drop : {Y : Type 0} (F : List ℕ → ℕ → Y) → ReadsOn F → (marks : List ℕ) (k : ℕ) → F marks k ≡ F (drop k marks) 0
at_drop F reads marks k =
    let same : k ≡ k + 0 = omega arith in
    ap (F marks) same ∙ sym (reads marks k 0)

pub at_after : {X Y : Type 0} (F : List ℕ → ℕ → Y) → ReadsOn F → (xs : List X) (marks : List ℕ) →
    F marks (0 + length xs) ≡ F (after xs marks) 0
at_after F reads xs marks =
    let same : 0 + length xs ≡ length xs = omega arith in
    ap (F marks) same ∙ (at_drop F reads marks (length xs) ∙ ap (λ ms. F ms 0) (sym (after_drop xs marks)))

pub named_on : (stem : Stem) → ReadsOn (named stem)
named_on stem marks k j = simp get_or-drop

pub decorations_on : (walked : Bool) (ds : List Decorator) → ReadsOn (decorations walked ds)
decorations_on walked [] marks k j = refl
decorations_on walked (d ∷ ds) marks k j =
    simp (get_or-drop, add_assoc, decorations_on walked ds marks k (j + 1), decorations_on walked ds marks k j)

pub decorator_assignments_on : (walked : Bool) (ds : List Decorator) → ReadsOn (decorator_assignments walked ds)
decorator_assignments_on walked [] marks k j = refl
decorator_assignments_on walked (d ∷ ds) marks k j =
    simp (get_or-drop, add_assoc, decorator_assignments_on walked ds marks k (j + 1), decorator_assignments_on walked ds marks k j)

first_item_on : (m : Seen) → ReadsOn (λ marks k. first_item marks k m)
first_item_on m marks k j = simp (get_or-drop, add_assoc, decorations_on (taken m) m.decorators marks k j)

member_assignments_on : (m : Seen) → ReadsOn (λ marks k. member_assignments marks k m)
member_assignments_on m marks k j = simp (get_or-drop, add_assoc, decorator_assignments_on (taken m) m.decorators marks k j)

pub first_walk_on : (ms : List Seen) → ReadsOn (λ marks k. first_walk marks k ms)
first_walk_on [] marks k j = refl
first_walk_on (m ∷ ms) marks k j = simp (first_item_on m marks k j, add_assoc, first_walk_on ms marks k (j + length (first_stems m)))

pub assignments_on : (ms : List Seen) → ReadsOn (λ marks k. assignments_from marks k ms)
assignments_on [] marks k j = refl
assignments_on (m ∷ ms) marks k j =
    simp (member_assignments_on m marks k j, add_assoc, assignments_on ms marks k (j + length (first_stems m)))

second_form_on : (t : Treatment) (static due called : Bool) (n : ℕ) (m : Seen) →
    ReadsOn (λ marks k. second_form t static due called n marks k m)
second_form_on Untouched static due called n m marks k j = refl
second_form_on Stored static due called n m marks k j = simp get_or-drop
second_form_on (DecoratedField private) static due called n m marks k j = refl
second_form_on (DecoratedAccessor private) static due called n m marks k j = simp (get_or-drop, add_assoc)
second_form_on (DecoratedElement private) static due called n m marks k j = simp get_or-drop

second_item_on : (s : Starters) (n : ℕ) (i : Item) → ReadsOn (λ marks k. second_item s n marks k i)
second_item_on s n i marks k j =
    let m = i.member in
    simp (second_form_on (treatment m) m.flags.is_static (due s m) s.called (number_after m n) m marks k j, get_or-drop, add_assoc)

pub second_walk_on : (s : Starters) (n : ℕ) (is : List Item) → ReadsOn (λ marks k. second_walk s n marks k is)
second_walk_on s n [] marks k j = refl
second_walk_on s n (i ∷ is) marks k j =
    let m = i.member in
    let rest = second_walk_on (starters_after s m) (number_after m n) is marks k (j + length (second_stems s m)) in
    simp (second_item_on s n i marks k j, add_assoc, rest)

third_form_on : (t : Treatment) (m : Seen) (form : MadeForm) → ReadsOn (λ marks k. third_form t marks k m form)
third_form_on Untouched m form marks k j = refl
third_form_on Stored m form marks k j = refl
third_form_on (DecoratedField private) m form marks k j = simp (get_or-drop, add_assoc)
third_form_on (DecoratedAccessor private) m form marks k j = refl
third_form_on (DecoratedElement private) m form marks k j = refl

third_item_on : (i : Item) → ReadsOn (λ marks k. third_item marks k i)
third_item_on i marks k j = simp (third_form_on (treatment i.member) i.member i.form marks k j)

pub third_walk_on : (is : List Item) → ReadsOn (λ marks k. third_walk marks k is)
third_walk_on [] marks k j = refl
third_walk_on (i ∷ is) marks k j = simp (third_item_on i marks k j, add_assoc, third_walk_on is marks k (j + length (third_stems i.member)))

-- One turn of a loop over xs: what it appends, and what is left after it.
module _ {X : Type 0} (xs : List X) (i : ℕ) (d : X) (within : i < length xs) where
  pub appends : {Y : Type 0} (F G : List X → List Y) (rows new ys whole : List Y) →
      ((rest : List X) → F (get_or xs i d ∷ rest) ≡ ys ++ G rest) → new ≡ rows ++ ys →
      rows ++ F (drop i xs) ≡ whole → new ++ G (drop (i + 1) xs) ≡ whole
  appends F G rows new ys whole turn pushed same =
      rw (pushed, append_assoc) (ap (λ zs. rows ++ zs) (sym (turn (drop (i + 1) xs)) ∙ sym (at_drop_more F xs i d within)) ∙ same)

  pub leaves : {Y : Type 0} (F G : List X → List Y) (ys : List Y) (marks new whole : List ℕ) →
      ((rest : List X) → F (get_or xs i d ∷ rest) ≡ ys ++ G rest) → new ≡ after ys marks →
      after (F (drop i xs)) marks ≡ whole → after (G (drop (i + 1) xs)) new ≡ whole
  leaves F G ys marks new whole turn drawn same =
      rw drawn (sym (after_append ys (G (drop (i + 1) xs)) marks)
      ∙ (ap (λ zs. after zs marks) (sym (turn (drop (i + 1) xs)) ∙ sym (at_drop_more F xs i d within)) ∙ same))
