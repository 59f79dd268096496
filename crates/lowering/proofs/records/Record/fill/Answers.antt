use Rattle.std.proofs.Common.{map, count_by, sym, ap, ◌∙◌, arith}
use Rattle.rules.specs.Members.{accessor}
use Rattle.rules.specs.Draws.{no_starters, constructor_calls}
use Rattle.rules.specs.Records.{lowered}
use Rattle.rules.specs.Walks.{item_of}
use Rattle.lowering.specs.Hands.{seen_hand}
use Rattle.lowering.specs.Items.{members_of}
use Rattle.lowering.specs.Rows.{rows_of}
use Rattle.lowering.proofs.Walked.{first_members, second_members, third_members}
use Rattle.lowering.proofs.Handed.{Walked, handed}
use Rattle.lowering.proofs.records.Record.fill.Goals as goal

pub walk_second-calls-requires : goal.walk_second-calls-requires
walk_second-calls-requires c =
    let members = ap members_of c.walk_first.ensures.items ∙ first_members c.of-names.result 0 (seen_hand (rows_of c.args.hand.now)) in
    omega (arith, ap (count_by accessor) members, c.requires)

pub construct-constructor-requires : goal.construct-constructor-requires
construct-constructor-requires c =
    let second = ap members_of c.walk_second-calls.ensures.items ∙ second_members no_starters c.args.number c.walk_first.new.names 0 _ in
    let third = ap members_of c.walk_third.ensures.items ∙ (third_members c.walk_second-calls.new.names 0 _ ∙ second) in
    let seen = ap (λ xs. members_of (map item_of xs)) c.as_slice.ensures in
    c.walk_second-calls.ensures.calls ∙ ap constructor_calls (sym (seen ∙ third))

pub returns : goal.returns
returns c =
    let ms = seen_hand (rows_of c.args.hand.now) in
    let walked : Walked ms c.args.number c.of-names.result c.walk_first.new.names _ _ _ _ _ = record {
      made_first = c.walk_first.ensures.items;
      made_second = c.walk_second-calls.ensures.items;
      made_third = c.walk_third.ensures.items;
      left_first = c.walk_first.ensures.left;
      left_second = c.walk_second-calls.ensures.left;
      left_third = c.walk_third.ensures.left;
    } in
    let seen = ap (λ xs. members_of (map item_of xs)) c.as_slice.ensures in
    let calls = c.walk_second-calls.ensures.calls in
    handed walked c.args.derived _ _ _ _ _ c.walk_first.ensures.rows calls seen c.construct-constructor.ensures.is c.assemble.ensures
    ∙ ap (lowered ms c.args.derived c.args.number) c.of-names.ensures
