use Rattle.std.proofs.Common.{length, sym, ap, ◌∙◌, arith, lit<}
use Rattle.std.specs.Option.{option_to_list}
use Rattle.std.proofs.lemmas.List.{length-append}
use Rattle.std.proofs.lemmas.List.Folds.{length-flat_map-take}
use Rattle.lowering.proofs.tables.Table.push_present.Goals as goal

pub push-requires : goal.push-requires
push-requires g c =
    let room = length-flat_map-take option_to_list c.args.rows.now c.loop-row.row-index c.row-item.result c.loop-row-test.true in
    let so_far = simp length-append at (ap length c.loop-row.invariant) in
    let one = ap (λ o. length (option_to_list o)) (sym c.row-item.is ∙ c.in-Some.is) in
    (lit< tt, omega (arith, room, so_far, one, c.requires))
