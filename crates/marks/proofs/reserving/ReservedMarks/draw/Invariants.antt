use Rattle.std.proofs.Common.{◌≡◌, ℕ, List}
use Rattle.marks.specs.Sizes.{size}
use Rattle.marks.specs.Skips.{Skipped}
use Rattle.marks.proofs.reserving.ReservedMarks.draw.Given as goal

-- What was drawn so far is reserved.
abbrev pub invariant-loop-mark : goal.invariant-loop-mark
invariant-loop-mark g l =
    (l.self.table ≡ l.initial.self.table)
    × ((ms : List ℕ) × Skipped g.S.Marks.steps l.initial.self.table ms l.initial.self.below l.self.below)

-- How many marks are free below.
abbrev pub decreases-loop-mark : goal.decreases-loop-mark
decreases-loop-mark g l = size (g.S.Marks.free l.self.below)
