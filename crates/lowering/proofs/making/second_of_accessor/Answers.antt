use Rattle.std.proofs.Common.{ap, ◌∙◌, rules}
use Rattle.sheet.specs.Seen.{seen_parts}
use Rattle.rules.specs.Draws.{named}
use Rattle.rules.specs.Walks.{initializer}
use Rattle.lowering.proofs.Seconds.{Drawn, accessor_left, accessor_second}
use Rattle.lowering.proofs.making.second_of_accessor.Goals as goal

pub returns : goal.returns
returns c =
    let m = seen_parts c.args.parts.now in
    let marks = c.args.names.now in
    let drawn : Drawn c.args.private c.args.reached m marks _ _ _ _ _ = record {
      init = c.next.ensures.left;
      early = c.next_starter-instance_starter.ensures.left;
      parameter = c.next-parameter.ensures.left;
      access = c.access_of-access.ensures.left;
      late = c.next_starter-static_starter.ensures.left;
    } in
    let first = c.next.ensures.name ∙ ap (λ stem. named stem marks 0) c.init_stem.ensures in
    let init = c.initializer_of-initializer.ensures ∙ ap (λ name. initializer name m) first in
    record {
      is = accessor_second drawn _ _ _ _ _ _ _ _ c.storage_of.ensures init (search rules) c.next-parameter.ensures.name
          c.access_of-access.ensures.is c.next_starter-instance_starter.ensures.is c.next_starter-static_starter.ensures.is c.or.ensures;
      left = accessor_left drawn;
    }
