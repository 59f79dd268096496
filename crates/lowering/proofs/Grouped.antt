-- The members of the groups, and how many they are.
use Rattle.std.proofs.Common.{◌+◌, ◌≤◌, Bool, true, false, cond, ◌&&◌, List, [], ◌∷◌, length, filter, arith}
use Rattle.std.proofs.lemmas.List.{length-append}
use Rattle.rules.specs.declared.treating.Treatment.{Treatment}
use Rattle.rules.specs.declared.treating.Treatment.TheVariants.{Untouched, Stored, DecoratedField, DecoratedAccessor, DecoratedElement}
use Rattle.rules.specs.Members.{treatment, is_field, is_non_field, same_half}
use Rattle.rules.specs.Records.{in_order}
use Rattle.rules.specs.Walks.{Item}
use Rattle.lowering.specs.declared.groups.Group.{Group}
use Rattle.lowering.specs.Groups.{grouped}
use Rattle.lowering.proofs.Turns.{kept_length}

abbrev pub group : Bool → Bool → Group
group half non_field = record { is_static = half; non_field = non_field }

abbrev pub all_groups : List Group
all_groups = group true true ∷ group true false ∷ group false true ∷ group false false ∷ []

-- a member is in one group at most
one_group : (t : Treatment) (static : Bool) →
    cond (is_non_field t && same_half true static) 1 0 + (cond (is_field t && same_half true static) 1 0
    + (cond (is_non_field t && same_half false static) 1 0 + cond (is_field t && same_half false static) 1 0)) ≤ 1
one_group Untouched static = omega arith
one_group Stored static = omega arith
one_group (DecoratedField _) true = omega arith
one_group (DecoratedField _) false = omega arith
one_group (DecoratedAccessor _) true = omega arith
one_group (DecoratedAccessor _) false = omega arith
one_group (DecoratedElement _) true = omega arith
one_group (DecoratedElement _) false = omega arith

pub groups_few : (is : List Item) →
    length (filter (grouped (group true true)) is) + (length (filter (grouped (group true false)) is)
    + (length (filter (grouped (group false true)) is) + length (filter (grouped (group false false)) is))) ≤ length is
groups_few [] = omega arith
groups_few (i ∷ is) =
    let m = i.member in
    omega (
      arith,
      groups_few is,
      kept_length (grouped (group true true)) i is,
      kept_length (grouped (group true false)) i is,
      kept_length (grouped (group false true)) i is,
      kept_length (grouped (group false false)) i is,
      one_group (treatment m) m.flags.is_static,
    )

-- no member has two descriptors
pub in_order_few : (is : List Item) → length (in_order (λ i. i.member) is) ≤ length is
in_order_few is = simp length-append (omega (arith, groups_few is))
