-- What a list of numbers has still to give.
use Rattle.std.specs.Prelude.{◌≡◌, ℕ, cond, not, ◌&&◌, List, [], ◌∷◌, ◌++◌, take, drop, Ok, Err, vec_items, Result}
use Rattle.marks.specs.declared.source.Exhausted.{Exhausted}
use Rattle.marks.specs.declared.listing.MarkList.{MarkList}
use Rattle.marks.specs.Sets.{mark, among}

-- xs up to the first that is no mark, as 0, or came before: among seen or earlier in xs
abbrev pub fresh : List ℕ → List ℕ → List ℕ
fresh seen [] = []
fresh seen (x ∷ xs) = cond (mark x && not (among seen x)) (x ∷ fresh (seen ++ x ∷ []) xs) []

-- what is left of xs after its first i
abbrev pub left : List ℕ → ℕ → List ℕ
left xs i = fresh (take i xs) (drop i xs)

abbrev pub to_give : MarkList → List ℕ
to_give s = left (vec_items s.numbers) s.given

-- a draw gives the first of what is left
abbrev pub first : List ℕ → Result ℕ Exhausted
first [] = Err (record { drawn = 0 })
first (x ∷ xs) = Ok x

-- and leaves the others
abbrev pub others : List ℕ → List ℕ
others [] = []
others (x ∷ xs) = xs

abbrev pub Gives : List ℕ → Result ℕ Exhausted → List ℕ → Type 0
Gives xs r ys = (r ≡ first xs) × (ys ≡ others xs)
