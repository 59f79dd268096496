-- The members that a record has made something of.
use Rattle.std.specs.Prelude.{List, map}
use Rattle.sheet.specs.Seen.{Seen}
use Rattle.rules.specs.Walks.{Item}

abbrev pub members_of : List Item → List Seen
members_of is = map (λ i. i.member) is
