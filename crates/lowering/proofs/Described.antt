-- The descriptors, group by group and in a group one after another.
use Rattle.std.proofs.Common.{◌≡◌, ℕ, ◌+◌, ◌<◌, ◌≤◌, Bool, true, false, cond, List, [], ◌∷◌, ◌++◌, map, length, get_or, take, drop, filter, sym, ap, ◌∙◌, append_assoc, arith}
use Rattle.std.specs.List.{flat_map}
use Rattle.std.proofs.lemmas.List.{length-map, map_push, map-append, append-nil}
use Rattle.std.proofs.lemmas.List.Folds.{length-flat_map-take}
use Rattle.rules.specs.declared.describing.Descriptor.{Descriptor}
use Rattle.rules.specs.declared.forming.Made.{Made}
use Rattle.rules.specs.Records.{Described, describe, described_of, in_order}
use Rattle.rules.specs.Walks.{Item, item_of}
use Rattle.lowering.specs.declared.groups.Group.{Group}
use Rattle.lowering.specs.Groups.{grouped}
use Rattle.lowering.proofs.Grouped.{group, all_groups, in_order_few}
use Rattle.lowering.proofs.Turns.{at_drop_item, kept_length}

module _ (g : Item → Bool) (xs : List Made) (i : ℕ) (x : Made) (within : i < length xs) (is : x ≡ get_or xs i x) where
  abbrev left : List Made → List Described
  left ys = map describe (filter g (map item_of ys))

  here : (b : Bool) → g (item_of x) ≡ b → left (drop i xs) ≡ cond b (describe (item_of x) ∷ left (drop (i + 1) xs)) (left (drop (i + 1) xs))
  here true test = at_drop_item left xs i x within is ∙ rw test
  here false test = at_drop_item left xs i x within is ∙ rw test

  pub described_more : (rows new : List Descriptor) (d : Descriptor) (whole : List Described) →
      g (item_of x) ≡ true → new ≡ rows ++ d ∷ [] → described_of d ≡ describe (item_of x) →
      map described_of rows ++ left (drop i xs) ≡ whole → map described_of new ++ left (drop (i + 1) xs) ≡ whole
  described_more rows new d whole passed pushed same all =
      rw (pushed, map_push, append_assoc, same) (ap (λ ys. map described_of rows ++ ys) (sym (here true passed)) ∙ all)

  pub described_same : (rows : List Descriptor) (whole : List Described) → g (item_of x) ≡ false →
      map described_of rows ++ left (drop i xs) ≡ whole → map described_of rows ++ left (drop (i + 1) xs) ≡ whole
  described_same rows whole none all = ap (λ ys. map described_of rows ++ ys) (sym (here false none)) ∙ all

  -- how many of the group are left
  pub kept_more : length (filter g (map item_of (drop i xs))) ≡ cond (g (item_of x)) 1 0 + length (filter g (map item_of (drop (i + 1) xs)))
  kept_more =
      at_drop_item (λ ys. length (filter g (map item_of ys))) xs i x within is
      ∙ kept_length g (item_of x) (map item_of (drop (i + 1) xs))

-- the descriptors of a group
abbrev pub descriptors_of : List Item → Group → List Described
descriptors_of is group = map describe (filter (grouped group) is)

descriptors_few : (is : List Item) → length (flat_map (descriptors_of is) all_groups) ≤ length is
descriptors_few is =
    let all : flat_map (descriptors_of is) all_groups ≡ map describe (in_order (λ i. i.member) is) = simp (map-append, append-nil) in
    omega (arith, ap length all ∙ length-map (in_order (λ i. i.member) is) describe, in_order_few is)

-- Where the groups before this one are described, the table has room for this one.
pub room_for_group : (is : List Item) (i : ℕ) (d : Group) (rows : List Descriptor) → i < 4 →
    map described_of rows ≡ flat_map (descriptors_of is) (take i all_groups) →
    length rows + length (filter (grouped (get_or all_groups i d)) is) ≤ length is
room_for_group is i d rows within so_far =
    let long = simp length-map at (ap length so_far) in
    let next = simp length-map at (length-flat_map-take (descriptors_of is) all_groups i d within) in
    omega (arith, long, next, descriptors_few is)

-- the four groups, one after another
pub described_in_order : (rows one two three four : List Descriptor) (is : List Item) → rows ≡ [] →
    map described_of one ≡ map described_of rows ++ map describe (filter (grouped (group true true)) is) →
    map described_of two ≡ map described_of one ++ map describe (filter (grouped (group true false)) is) →
    map described_of three ≡ map described_of two ++ map describe (filter (grouped (group false true)) is) →
    map described_of four ≡ map described_of three ++ map describe (filter (grouped (group false false)) is) →
    map described_of four ≡ map describe (in_order (λ i. i.member) is)
described_in_order rows one two three four is none p q r s =
    let first = p ∙ ap (λ ds. map described_of ds ++ map describe (filter (grouped (group true true)) is)) none in
    rw (s, r, q, first) (simp (map-append, append_assoc))
