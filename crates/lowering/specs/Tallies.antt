-- The names that a class draws, counted member by member.
use Rattle.std.specs.Prelude.{ℕ, ◌+◌, Bool, cond, not, ◌&&◌, ◌||◌, List, [], ◌∷◌, length}
use Rattle.sheet.specs.Seen.{Seen}
use Rattle.rules.specs.declared.treating.Starters.{Starters}
use Rattle.rules.specs.Members.{built}
use Rattle.rules.specs.Draws.{starters_after, first_stems, second_stems, third_stems}
use Rattle.lowering.specs.declared.draws.Tally.{Tally}

-- what is known of the starters after all of the members
abbrev pub starters_over : Starters → List Seen → Starters
starters_over s [] = s
starters_over s (m ∷ ms) = starters_over (starters_after s m) ms

abbrev pub tally_after : Tally → Seen → Tally
tally_after t m = record {
  names = t.names + length (first_stems m) + length (second_stems t.starters m) + length (third_stems m);
  starters = starters_after t.starters m;
  built = t.built || built m;
}

abbrev pub tallied : Tally → List Seen → Tally
tallied t [] = t
tallied t (m ∷ ms) = tallied (tally_after t m) ms

-- with one more for a new constructor's arguments
abbrev pub total_of : Tally → Bool → ℕ
total_of t derived = cond (t.starters.instance && not t.starters.called && (not t.built && derived)) (t.names + 1) t.names
