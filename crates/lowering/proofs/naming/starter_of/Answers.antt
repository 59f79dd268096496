use Rattle.std.proofs.Common.{Some, None, ◌∙◌, rules}
use Rattle.std.proofs.lemmas.Iterator.{YieldsList-from_slice}
use Rattle.std.proofs.lemmas.Iterator.Search.{find_from_yields_List}
use Rattle.lowering.specs.Rows.{rows_of}
use Rattle.lowering.proofs.Named.{starting, starter_found}
use Rattle.lowering.proofs.naming.starter_of.Goals as goal

pub returns-in_err-first : goal.returns-in_err-first
returns-in_err-first c =
    let half = c.args.is_static in
    let members = YieldsList-from_slice c.as_slice.result.now cc in
    let found = find_from_yields_List (starting half) _ _ c.find.result c.find.ensures.ran members (λ x b q k. search rules) in
    let rows = rows_of c.args.members.now in
    c.from_residual.ensures
    ∙ starter_found half rows c.as_slice.result.now c.find.result None c.as_slice.ensures found c.in_err-first.was

pub returns : goal.returns
returns c =
    let half = c.args.is_static in
    let members = YieldsList-from_slice c.as_slice.result.now cc in
    let found = find_from_yields_List (starting half) _ _ c.find.result c.find.ensures.ran members (λ x b q k. search rules) in
    let rows = rows_of c.args.members.now in
    starter_found half rows c.as_slice.result.now c.find.result (Some c.in_ok-first.first) c.as_slice.ensures found c.in_ok-first.was
