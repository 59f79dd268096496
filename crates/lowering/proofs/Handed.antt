-- How the marks of a class are handed out.
use Rattle.std.proofs.Common.{◌≡◌, ℕ, Bool, cond, List, drop, ap, ◌∙◌}
use Rattle.sheet.specs.Seen.{Seen}
use Rattle.rules.specs.declared.describing.Assignment.{Assignment}
use Rattle.rules.specs.declared.forming.Constructor.{Constructor}
use Rattle.rules.specs.declared.forming.Constructor.TheVariants.{AsWritten}
use Rattle.rules.specs.declared.naming.Stem.TheVariants.{Args}
use Rattle.rules.specs.Draws.{named, no_starters, first_stems, third_stems, for_each, for_second_walk, second_from, third_from, args_at, constructor_calls}
use Rattle.rules.specs.Records.{Record, assembled, items_of, lowered, constructor_from, constructor_of}
use Rattle.rules.specs.Walks.{Item, some_if, assignments_from, first_walk, second_walk, third_walk}
use Rattle.lowering.specs.Items.{members_of}
use Rattle.lowering.specs.Left.{after}
use Rattle.lowering.proofs.Left.{at_drop, after_drop, drop_after, named_on, second_walk_on, third_walk_on}
use Rattle.lowering.proofs.Walked.{first_members, second_members, third_members}

-- what each walk over the members ms makes, and which marks it leaves
pub record Walked (ms : List Seen) (n : ℕ) (marks one two three : List ℕ) (first second third : List Item) : Type 0 where
  pub made_first : first ≡ first_walk marks 0 ms
  pub made_second : second ≡ second_walk no_starters n one 0 first
  pub made_third : third ≡ third_walk two 0 second
  pub left_first : one ≡ after (for_each first_stems 0 ms) marks
  pub left_second : two ≡ after (for_second_walk no_starters 0 (members_of first)) one
  pub left_third : three ≡ after (for_each third_stems 0 (members_of second)) two

module _ {ms : List Seen} {n : ℕ} {marks one two three : List ℕ} {first second third : List Item}
    (w : Walked ms n marks one two three first second third) where
  first_same : members_of first ≡ ms
  first_same = ap members_of w.made_first ∙ first_members marks 0 ms

  second_same : members_of second ≡ ms
  second_same = ap members_of w.made_second ∙ (second_members no_starters n one 0 first ∙ first_same)

  third_same : members_of third ≡ ms
  third_same = ap members_of w.made_third ∙ (third_members two 0 second ∙ second_same)

  one_is : one ≡ drop (second_from ms) marks
  one_is = w.left_first ∙ after_drop (for_each first_stems 0 ms) marks

  two_is : two ≡ drop (third_from ms) marks
  two_is = drop_after (for_second_walk no_starters 0 ms) marks one two (second_from ms) one_is
      (w.left_second ∙ ap (λ zs. after (for_second_walk no_starters 0 zs) one) first_same)

  three_is : three ≡ drop (args_at ms) marks
  three_is = drop_after (for_each third_stems 0 ms) marks two three (third_from ms) two_is
      (w.left_third ∙ ap (λ zs. after (for_each third_stems 0 zs) two) second_same)

  items_handed : third ≡ items_of ms n marks
  items_handed =
      let second_on = at_drop (λ zs k. second_walk no_starters n zs k first) (second_walk_on no_starters n first) marks (second_from ms) in
      let third_on = at_drop (λ zs k. third_walk zs k second) (third_walk_on second) marks (third_from ms) in
      let made = w.made_second in
      let last = w.made_third in
      let at_one = one_is in
      let at_two = two_is in
      cc

  constructor_handed : (derived calls : Bool) (members : List Seen) (made : Constructor) →
      calls ≡ constructor_calls ms → members ≡ members_of third →
      made ≡ cond calls (constructor_from 0 members (some_if derived (named Args three 0)) 0) AsWritten →
      made ≡ constructor_of derived ms marks
  constructor_handed derived calls members made are seen is =
      let on = at_drop (named Args) (named_on Args) marks (args_at ms) in
      let at_three = three_is in
      let same = third_same in
      cc

  pub handed : (derived calls : Bool) (members : List Seen) (assignments : List Assignment) (constructor : Constructor) (out : Record) →
      assignments ≡ assignments_from marks 0 ms → calls ≡ constructor_calls (members_of first) → members ≡ members_of third →
      constructor ≡ cond calls (constructor_from 0 members (some_if derived (named Args three 0)) 0) AsWritten →
      out ≡ assembled assignments third constructor → out ≡ lowered ms derived n marks
  handed derived calls members assignments constructor out assigned are seen is put =
      let built = constructor_handed derived calls members constructor (are ∙ ap constructor_calls first_same) seen is in
      let items = items_handed in
      rw (put, assigned, items, built)
