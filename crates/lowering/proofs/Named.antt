-- The names in the order of the results, and the variables.
use Rattle.std.proofs.Common.{◌≡◌, ℕ, ◌+◌, ◌*◌, ◌<◌, ◌≤◌, Bool, true, false, cond, not, List, [], ◌∷◌, ◌++◌, map, length, get_or, take, Some, None, Option, filter, Bor, sym, refl, ap, ◌∙◌, append-nil, append_assoc, arith}
use Rattle.std.specs.List.{flat_map, find}
use Rattle.std.specs.Option.{option_to_list, option_map, option_and_then}
use Rattle.std.proofs.lemmas.List.{length-append}
use Rattle.std.proofs.lemmas.List.Concat.{flat_map-append}
use Rattle.std.proofs.lemmas.List.Folds.{length-flat_map-take}
use Rattle.rules.specs.declared.naming.Name.{Name}
use Rattle.rules.specs.declared.forming.Frame.{Frame}
use Rattle.rules.specs.declared.forming.Made.{Made}
use Rattle.rules.specs.declared.forming.MadeForm.{MadeForm}
use Rattle.rules.specs.declared.forming.MadeForm.TheVariants.{AsWritten, Initialized, Stored, StoredDecorated, Called}
use Rattle.rules.specs.Draws.{if_so}
use Rattle.rules.specs.Records.{access_names, second_names, third_names, item_names, in_order, starter_of}
use Rattle.rules.specs.Walks.{Item, item_of}
use Rattle.lowering.specs.declared.groups.Group.{Group}
use Rattle.lowering.specs.declared.naming.Pick.TheVariants.{Second, Third}
use Rattle.lowering.specs.Groups.{grouped}
use Rattle.lowering.specs.Picks.{third, wanted}
use Rattle.lowering.proofs.Grouped.{group, all_groups, in_order_few}

pub joined_if : {X Y : Type 0} (p : X → Bool) (f : X → List Y) (xs : List X) →
    flat_map (λ x. if_so (p x) (f x)) xs ≡ flat_map f (filter p xs)
joined_if p f [] = refl
joined_if p f (x ∷ xs) =
    elim (p x) as (λ b. cond b (f x) [] ++ flat_map (λ y. if_so (p y) (f y)) xs ≡ flat_map f (cond b (x ∷ filter p xs) (filter p xs))) [
      | true ↦ ap (λ zs. f x ++ zs) (joined_if p f xs)
      | false ↦ joined_if p f xs
    ]

-- Of each form at most three names stand for results.
names_few : (form : MadeForm) → length (second_names form) + length (third_names form) ≤ 3
names_few AsWritten = omega arith
names_few (Initialized init parameter) = omega arith
names_few (Stored storage value parameter) = omega arith
names_few (StoredDecorated storage init starts parameter None) = omega arith
names_few (StoredDecorated storage init starts parameter (Some a)) = omega arith
names_few (Called name) = omega arith

pub item_names_few : (is : List Item) → length (flat_map item_names is) ≤ 3 * length is
item_names_few [] = omega arith
item_names_few (i ∷ is) =
    let here = length-append (second_names i.form) (third_names i.form) in
    let all = length-append (item_names i) (flat_map item_names is) in
    omega (arith, item_names_few is, names_few i.form, here, all)

-- the names of a group
abbrev pub names_in : List Item → Group → List Name
names_in is group = flat_map item_names (filter (grouped group) is)

pub group_names_few : (group : Group) (is : List Item) → length (names_in is group) ≤ 3 * length (filter (grouped group) is)
group_names_few group is = item_names_few (filter (grouped group) is)

-- a group's names, after those before
pub longer : (rows new : List Name) (group : Group) (is : List Item) → new ≡ rows ++ names_in is group →
    length new ≤ length rows + 3 * length (filter (grouped group) is)
longer rows new group is pushed = omega (arith, ap length pushed ∙ length-append rows (names_in is group), group_names_few group is)

-- the four groups, one after another
pub names_in_order : (rows one two three four : List Name) (is : List Item) → rows ≡ [] → one ≡ rows ++ names_in is (group true true) →
    two ≡ one ++ names_in is (group true false) → three ≡ two ++ names_in is (group false true) →
    four ≡ three ++ names_in is (group false false) → four ≡ flat_map item_names (in_order (λ i. i.member) is)
names_in_order rows one two three four is none p q r s = rw (s, r, q, p, none) (simp (flat_map-append, append_assoc))

-- group by group they stand in order
names_all : (is : List Item) → flat_map (names_in is) all_groups ≡ flat_map item_names (in_order (λ i. i.member) is)
names_all is = simp (flat_map-append, append-nil)

pub names_all_few : (is : List Item) → length (flat_map (names_in is) all_groups) ≤ 3 * length is
names_all_few is = omega (arith, ap length (names_all is), item_names_few (in_order (λ i. i.member) is), in_order_few is)

-- Where the groups before this one have put their names, there is room for those of this one.
pub room_for_names : (is : List Item) (i : ℕ) (d : Group) (rows : List Name) → i < 4 → rows ≡ flat_map (names_in is) (take i all_groups) →
    length rows + length (names_in is (get_or all_groups i d)) ≤ 3 * length is
room_for_names is i d rows within so_far =
    omega (arith, ap length so_far, length-flat_map-take (names_in is) all_groups i d within, names_all_few is)

-- A form has names of one walk alone.
second_or_third : (form : MadeForm) → cond (not (third form)) (second_names form ++ third_names form) [] ≡ second_names form
second_or_third AsWritten = refl
second_or_third (Initialized init parameter) = refl
second_or_third (Stored storage value parameter) = refl
second_or_third (StoredDecorated storage init starts parameter access) = append-nil (init.name ∷ access_names access)
second_or_third (Called name) = refl

third_or_second : (form : MadeForm) → cond (third form) (second_names form ++ third_names form) [] ≡ third_names form
third_or_second AsWritten = refl
third_or_second (Initialized init parameter) = refl
third_or_second (Stored storage value parameter) = refl
third_or_second (StoredDecorated storage init starts parameter access) = refl
third_or_second (Called name) = refl

-- Where what passes has the names f, and what does not has none of them, the names of those that pass are the names f.
names_of_kept : (p : Item → Bool) (f : Item → List Name) → ((i : Item) → cond (p i) (item_names i) [] ≡ f i) →
    (is : List Item) → flat_map item_names (filter p is) ≡ flat_map f is
names_of_kept p f same [] = refl
names_of_kept p f same (i ∷ is) =
    let rest = names_of_kept p f same is in
    let kept = filter p is in
    elim (p i) as (λ b. cond b (item_names i) [] ≡ f i → flat_map item_names (cond b (i ∷ kept) kept) ≡ f i ++ flat_map f is) [
      | true ↦ λ e. rw (e, rest)
      | false ↦ λ e. rw (← e) rest
    ] (same i)

pub names_of_second : (is : List Item) → flat_map item_names (filter (wanted Second) is) ≡ flat_map (λ i. second_names i.form) is
names_of_second is = names_of_kept (wanted Second) (λ i. second_names i.form) (λ i. second_or_third i.form) is

pub names_of_third : (is : List Item) → flat_map item_names (filter (wanted Third) is) ≡ flat_map (λ i. third_names i.form) is
names_of_third is = names_of_kept (wanted Third) (λ i. third_names i.form) (λ i. third_or_second i.form) is

pub forms_few : (is : List Item) →
    length (flat_map (λ i. second_names i.form) is) + length (flat_map (λ i. third_names i.form) is) ≤ 3 * length is
forms_few [] = omega arith
forms_few (i ∷ is) =
    omega (
      arith,
      forms_few is,
      names_few i.form,
      length-append (second_names i.form) (flat_map (λ j. second_names j.form) is),
      length-append (third_names i.form) (flat_map (λ j. third_names j.form) is),
    )

-- the names of both walks
pub both_few : (is : List Item) →
    length (flat_map item_names (filter (wanted Second) is)) + length (flat_map item_names (filter (wanted Third) is)) ≤ 3 * length is
both_few is = omega (arith, ap length (names_of_second is), ap length (names_of_third is), forms_few is)

pub starter_few : (o : Option Name) → length (option_to_list o) ≤ 1
starter_few None = omega arith
starter_few (Some name) = omega arith

-- there are two starters at most
pub starters_few : (f : Frame) → length (flat_map option_to_list (f.instance_starter ∷ f.static_starter ∷ [])) ≤ 2
starters_few f = few f.instance_starter f.static_starter
  where
    few : (a b : Option Name) → length (flat_map option_to_list (a ∷ b ∷ [])) ≤ 2
    few None None = omega arith
    few None (Some b) = omega arith
    few (Some a) None = omega arith
    few (Some a) (Some b) = omega arith

-- a decorated non-field of the half
abbrev pub starting : Bool → Made → Bool
starting half m = grouped (group half true) (item_of m)

found : (half : Bool) (xs : List Made) → starter_of half (map item_of xs) ≡ option_and_then (λ m. m.starter) (find (starting half) xs)
found half [] = refl
found half (x ∷ xs) =
    let starter = option_and_then (λ (m : Made). m.starter) in
    let rest = find (starting half) xs in
    elim (starting half x) as (λ b. cond b x.starter (starter_of half (map item_of xs)) ≡ starter (cond b (Some x) rest)) [
      | true ↦ refl
      | false ↦ found half xs
    ]

-- the first of a half's decorated non-fields has its starter
pub starter_found : (half : Bool) (xs ys : List Made) (first o : Option (Bor Made)) → ys ≡ xs →
    option_map (λ y. y.now) first ≡ find (starting half) ys → first ≡ o →
    option_and_then (λ m. m.starter) (option_map (λ y. y.now) o) ≡ starter_of half (map item_of xs)
starter_found half xs ys first o same is what = rw (← same, ← what, is) (sym (found half ys))
