-- What walk 2 gives to a member, with the marks that are left.
use Rattle.std.specs.Prelude.{ℕ, Bool, ◌&&◌, List}
use Rattle.sheet.specs.Seen.{Seen}
use Rattle.rules.specs.declared.naming.Stem.{Stem}
use Rattle.rules.specs.declared.treating.Starters.{Starters}
use Rattle.rules.specs.declared.treating.Treatment.{Treatment}
use Rattle.rules.specs.Members.{same_half}
use Rattle.rules.specs.Draws.{due, second_stems_of}
use Rattle.rules.specs.Walks.{second_form, second_starter}
use Rattle.lowering.specs.declared.making.Reached.{Reached}
use Rattle.lowering.specs.declared.making.Second.{Second}

-- the starter of the half is drawn with m, if m is a decorated non-field: m belongs to that half, and the starter is due
abbrev pub is_drawn : Bool → Starters → Seen → Bool
is_drawn half s m = same_half half m.flags.is_static && due s m

-- by what is done with the member; the number that was reached is that of its storage
abbrev pub second_as : Treatment → Reached → List ℕ → Seen → Second
second_as t reached marks m = record {
  form = second_form t m.flags.is_static (due reached.starters m) reached.starters.called reached.number marks 0 m;
  starter = second_starter t m.flags.is_static (due reached.starters m) marks 0;
}

-- the names that it draws
abbrev pub stems_as : Treatment → Starters → Seen → List Stem
stems_as t s m = second_stems_of t m.flags.is_static (due s m) m
