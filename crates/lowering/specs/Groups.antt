-- The members of a group.
use Rattle.std.specs.Prelude.{Bool}
use Rattle.rules.specs.Records.{in_group}
use Rattle.rules.specs.Walks.{Item}
use Rattle.lowering.specs.declared.groups.Group.{Group}

-- whether a member belongs to the group
abbrev pub grouped : Group → Item → Bool
grouped g i = in_group g.is_static g.non_field i.member
