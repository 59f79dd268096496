-- Which classes cannot be lowered.
use Rattle.std.specs.Prelude.{ℕ, ◌+◌, Bool, true, false, cond, not, ◌&&◌, ◌||◌, List, [], ◌∷◌, Some, None, Option, ◌==◌, nat_le}
use Rattle.pieces.specs.declared.parts.Body.{Body}
use Rattle.pieces.specs.declared.parts.Body.TheVariants.{Text, Constructor}
use Rattle.sheet.specs.Seen.{Seen}
use Rattle.rules.specs.Members.{built, accessor}
use Rattle.rules.specs.Walks.{number_after}

-- a head in a class that is not derived, or none in one that is
abbrev pub head_misplaced : Bool → Option Body → Bool
head_misplaced derived None = false
head_misplaced derived (Some (Text p)) = false
head_misplaced true (Some (Constructor head tail)) = head.length == 0
head_misplaced false (Some (Constructor head tail)) = not (head.length == 0)

-- a constructor with a body that is out of order; `second` if one came before it
abbrev pub out_of_order : Bool → Bool → Seen → Bool
out_of_order derived second m = built m && (second || head_misplaced derived m.body)

-- the number of the first constructor that is out of order, among the members from number i on
abbrev pub first_out_of_order : Bool → Bool → ℕ → List Seen → Option ℕ
first_out_of_order derived second i [] = None
first_out_of_order derived second i (m ∷ ms) =
    cond (out_of_order derived second m) (Some i) (first_out_of_order derived (second || built m) (i + 1) ms)

-- the number of the first accessor whose storage number would pass 65,535, where n is the last number given
abbrev pub first_unnumbered : ℕ → ℕ → List Seen → Option ℕ
first_unnumbered n i [] = None
first_unnumbered n i (m ∷ ms) =
    cond (accessor m && nat_le 65535 n) (Some i) (first_unnumbered (number_after m n) (i + 1) ms)
