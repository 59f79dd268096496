-- What walk 1 takes out, one decorator after another.
use Rattle.std.proofs.Common.{◌≡◌, ℕ, suc, ◌+◌, ◌-◌, ◌<◌, ◌≤◌, Bool, true, false, cond, List, [], ◌∷◌, ◌++◌, map, length, get_or, take, drop, None, filter, Option, refl, sym, ap, ◌∙◌, append_assoc, arith}
use Rattle.std.proofs.lemmas.List.{take_all, length_push, length-append, length-take}
use Rattle.formats.specs.declared.Place.{Place}
use Rattle.lists.specs.declared.Bounded.{Bounded}
use Rattle.lists.specs.Listed.{listed}
use Rattle.pieces.specs.declared.parts.Decorator.{Decorator}
use Rattle.pieces.specs.declared.codes.Shape.TheVariants.{Identifier}
use Rattle.sheet.specs.Seen.{Seen}
use Rattle.rules.specs.declared.forming.Held.{Held}
use Rattle.rules.specs.declared.naming.Name.{Name}
use Rattle.rules.specs.declared.describing.Assignment.{Assignment}
use Rattle.rules.specs.declared.naming.Stem.TheVariants.{Dec, ComputedKey}
use Rattle.rules.specs.declared.describing.Decoration.{Decoration}
use Rattle.rules.specs.declared.describing.Decoration.TheVariants.{Written, Assigned}
use Rattle.rules.specs.declared.forming.MadeForm.TheVariants.{AsWritten}
use Rattle.rules.specs.Members.{taken, taken_out, replaced}
use Rattle.rules.specs.Draws.{named, if_so, first_stems}
use Rattle.rules.specs.Walks.{Applied, array, merged, some_if, decorations, decorator_assignments, hand_key, key_name, key_assignments, member_assignments, Item, first_item}
use Rattle.lowering.specs.Hands.{seen_held}
use Rattle.lowering.specs.Left.{after}
use Rattle.lowering.proofs.Left.{after_append, after_map, at_after, named_on, decorations_on, decorator_assignments_on}

-- what stands for a decorator past the end of a list
abbrev pub nowhere : Decorator
nowhere = record { shape = Identifier; text = record { start = 0; length = 0 } }

-- two or more decorators
pub merged_several : (ds : List Decoration) (d : Decoration) → 2 ≤ length ds → length ds ≤ 8 →
    array (get_or ds 0 d) (take 8 (take (length ds - 1) (drop 1 ds))) ≡ merged ds
merged_several [] d two few = absurd (omega arith)
merged_several (x ∷ []) d two few = absurd (omega arith)
merged_several (x ∷ e ∷ rest) d two few =
    let all = take_all (suc (suc (length rest)) - 1) (e ∷ rest) (omega arith) in
    let short = take_all 8 (e ∷ rest) (omega arith) in
    ap (array x) (ap (take 8) all ∙ short)

-- there is room for one more
pub appended : {X : Type 0} (xs : List X) (n : ℕ) (y : X) (ys : List X) → ys ≡ take n (xs ++ y ∷ []) → length xs < n → ys ≡ xs ++ y ∷ []
appended xs n y ys is room = is ∙ take_all n (xs ++ y ∷ []) (omega (arith, length_push xs y))

pub going_on : {X : Type 0} (xs : List X) (y : X) (ys zs whole : List X) → ys ≡ xs ++ y ∷ [] → xs ++ y ∷ zs ≡ whole → ys ++ zs ≡ whole
going_on xs y ys zs whole pushed same = ap (λ us. us ++ zs) pushed ∙ (append_assoc xs (y ∷ []) zs ∙ same)

-- How many texts are assigned: at most one for each decorator, and one for the key.
pub listed_few : {T : Type 0} {N : ℕ} (b : Bounded T N) → length (listed b) ≤ N
listed_few b = omega (arith, length-take b.len b.items, b.within)

pub one_few : {X : Type 0} (b : Bool) (x : X) → length (if_so b (x ∷ [])) ≤ 1
one_few true x = omega arith
one_few false x = omega arith

pub one_more : {X : Type 0} (xs ys : List X) (b : Bool) (x : X) → ys ≡ xs ++ if_so b (x ∷ []) → length ys ≤ length xs + 1
one_more xs ys b x is = omega (arith, ap length is, length-append xs (if_so b (x ∷ [])), one_few b x)

pub assigned_few : (walked : Bool) (ds : List Decorator) (marks : List ℕ) (k : ℕ) →
    length (decorator_assignments walked ds marks k) ≤ length ds
assigned_few walked [] marks k = omega arith
assigned_few walked (d ∷ ds) marks k =
    let more = assigned_few walked ds marks (k + 1) in
    let same = assigned_few walked ds marks k in
    grind arith

pub key_few : (marks : List ℕ) (k : ℕ) (m : Seen) → length (key_assignments marks k m) ≤ 1
key_few marks k m = one_few {X = Assignment} (replaced m) (record { name = key_name marks k m; text = m.key.text })

pub member_few : (h : Held) (marks : List ℕ) → length (member_assignments marks 0 (seen_held h)) ≤ 9
member_few h marks =
    let m = seen_held h in
    let both = length-append (decorator_assignments (taken m) m.decorators marks 0) (key_assignments marks 0 m) in
    let key = one_few {X = Assignment} (replaced m) (record { name = key_name marks 0 m; text = m.key.text }) in
    omega (arith, both, assigned_few (taken m) m.decorators marks 0, listed_few h.member.parts.decorators, key)

after_if : {X Y : Type 0} (b : Bool) (x : X) (y : Y) (marks : List ℕ) → after (if_so b (x ∷ [])) marks ≡ after (if_so b (y ∷ [])) marks
after_if true x y marks = refl
after_if false x y marks = refl

-- The name of the decorator d is drawn, if d is taken out.
module _ (walked : Bool) (d : Decorator) (marks next : List ℕ) (drawn : next ≡ after (if_so (taken_out walked d) (Dec ∷ [])) marks) where
  pub decorations_turn : (one : Decoration) → one ≡ cond (taken_out walked d) (Assigned (named Dec marks 0)) (Written d.text) →
      (rest : List Decorator) → decorations walked (d ∷ rest) marks 0 ≡ one ∷ decorations walked rest next 0
  decorations_turn one is rest = rw (is, drawn) (elim (taken_out walked d) as (λ b.
      cond b (Assigned (named Dec marks 0) ∷ decorations walked rest marks 1) (Written d.text ∷ decorations walked rest marks 0)
      ≡ cond b (Assigned (named Dec marks 0)) (Written d.text) ∷ decorations walked rest (after (if_so b (Dec ∷ [])) marks) 0) [
        | true ↦ simp (decorations_on walked rest marks 1 0)
        | false ↦ refl
      ])

  abbrev assigned : Assignment
  assigned = record { name = named Dec marks 0; text = d.text }

  pub assignments_turn : (rest : List Decorator) →
      decorator_assignments walked (d ∷ rest) marks 0
      ≡ if_so (taken_out walked d) (assigned ∷ []) ++ decorator_assignments walked rest next 0
  assignments_turn rest = rw drawn (elim (taken_out walked d) as (λ b.
      cond b (assigned ∷ decorator_assignments walked rest marks 1) (decorator_assignments walked rest marks 0)
      ≡ if_so b (assigned ∷ []) ++ decorator_assignments walked rest (after (if_so b (Dec ∷ [])) marks) 0) [
        | true ↦ simp (decorator_assignments_on walked rest marks 1 0)
        | false ↦ refl
      ])

  pub drawn_turn : next ≡ after (if_so (taken_out walked d) (d ∷ [])) marks
  drawn_turn = drawn ∙ after_if (taken_out walked d) Dec d marks

pub filter_turn : {X : Type 0} (p : X → Bool) (x : X) (rest : List X) → filter p (x ∷ rest) ≡ if_so (p x) (x ∷ []) ++ filter p rest
filter_turn p x rest =
    elim (p x) as (λ b. cond b (x ∷ filter p rest) (filter p rest) ≡ if_so b (x ∷ []) ++ filter p rest) [ true ↦ refl | false ↦ refl ]

-- what walk 1 makes of a member
pub made_first : (m n : Seen) (key : Option Name) (d : Applied) (marks : List ℕ) (k : ℕ) →
    n ≡ m → key ≡ hand_key marks k m → d ≡ merged (decorations (taken m) m.decorators marks k) →
    ◌≡◌ {A = Item} (record { member = n; key = key; decorators = d; form = AsWritten; starter = None }) (first_item marks k m)
made_first m n key d marks k same is all = cc

-- walk 1 over m: its decorators ds are taken out, and its key is, or not
pub record Took (m : Seen) (marks next : List ℕ) (walked out : Bool) (ds : List Decorator) : Type 0 where
  pub is_walked : walked ≡ taken m
  pub is_out : out ≡ replaced m
  pub are : ds ≡ m.decorators
  pub drawn : next ≡ after (filter (taken_out walked) ds) marks

module _ {m : Seen} {marks next : List ℕ} {walked out : Bool} {ds : List Decorator} (t : Took m marks next walked out ds) where
  abbrev out_of_m : List Decorator
  out_of_m = filter (taken_out (taken m)) m.decorators

  same_next : next ≡ after out_of_m marks
  same_next = rw (← t.is_walked, ← t.are) t.drawn

  key_is : named ComputedKey next 0 ≡ key_name marks 0 m
  key_is = ap (λ zs. named ComputedKey zs 0) same_next ∙ sym (at_after (named ComputedKey) (named_on ComputedKey) out_of_m marks)

  pub key_taken : (key : Option Name) → key ≡ some_if out (named ComputedKey next 0) → key ≡ some_if (replaced m) (key_name marks 0 m)
  key_taken key is = is ∙ (ap (λ b. some_if b (named ComputedKey next 0)) t.is_out ∙ ap (some_if (replaced m)) key_is)

  pub list_taken : (list : List Decoration) → list ≡ decorations walked ds marks 0 → list ≡ decorations (taken m) m.decorators marks 0
  list_taken list is = rw (← t.is_walked, ← t.are) is

  pub rows_taken : (rows more all : List Assignment) (text : Place) →
      text ≡ m.key.text → more ≡ rows ++ decorator_assignments walked ds marks 0 →
      all ≡ more ++ if_so out (record { name = named ComputedKey next 0; text = text } ∷ []) → all ≡ rows ++ member_assignments marks 0 m
  rows_taken rows more all text same one two =
      let key = key_is in
      let together = append_assoc rows (decorator_assignments (taken m) m.decorators marks 0) (key_assignments marks 0 m) in
      cc

  pub left_taken : (last : List ℕ) → last ≡ after (if_so out (ComputedKey ∷ [])) next → last ≡ after (first_stems m) marks
  left_taken last is =
      let both = after_append (map (λ d. Dec) out_of_m) (if_so (replaced m) (ComputedKey ∷ [])) marks in
      let each = after_map (λ d. Dec) out_of_m marks in
      let same = same_next in
      cc
