use Rattle.std.proofs.Common.{map, length, ap, arith, lit<}
use Rattle.std.proofs.lemmas.List.{length-append, length-map, append_assoc, append-nil}
use Rattle.rules.specs.Walks.{item_of}
use Rattle.lowering.specs.Rows.{rows_of}
use Rattle.lowering.proofs.Named.{names_of_second, names_of_third, both_few, starters_few}
use Rattle.lowering.proofs.Rooms.{rows_few, members_few}
use Rattle.lowering.proofs.naming.declare_all.Goals as goal

pub put_all-requires : goal.put_all-requires
put_all-requires c =
    let members = c.args.members.now in
    let assigned = simp (length-append, length-map, c.clear.ensures, c.as_slice.ensures) at (ap length c.put_assigned.ensures) in
    let both = both_few (map item_of (rows_of members)) in
    (lit< tt, omega (arith, assigned, both, rows_few c.args.assignments.now, members_few members))

pub put_all-requires-2 : goal.put_all-requires-2
put_all-requires-2 c =
    let members = c.args.members.now in
    let assigned = simp (length-append, length-map, c.clear.ensures, c.as_slice.ensures) at (ap length c.put_assigned.ensures) in
    let second = simp length-append at (ap length c.put_all.ensures) in
    let both = both_few (map item_of (rows_of members)) in
    (lit< tt, omega (arith, assigned, second, both, rows_few c.args.assignments.now, members_few members))

pub push_present-requires : goal.push_present-requires
push_present-requires c =
    let members = c.args.members.now in
    let assigned = simp (length-append, length-map, c.clear.ensures, c.as_slice.ensures) at (ap length c.put_assigned.ensures) in
    let second = simp length-append at (ap length c.put_all.ensures) in
    let third = simp length-append at (ap length c.put_all-2.ensures) in
    let both = both_few (map item_of (rows_of members)) in
    let starters = starters_few c.args.frame in
    (lit< tt, omega (arith, assigned, second, third, both, starters, rows_few c.args.assignments.now, members_few members))

pub returns : goal.returns
returns c =
    let is = map item_of (rows_of c.args.members.now) in
    let assigned = rw (c.clear.ensures, c.as_slice.ensures) at c.put_assigned.ensures in
    rw (c.push_present.ensures, c.put_all-2.ensures, c.put_all.ensures, assigned, names_of_second is, names_of_third is)
    (simp (append_assoc, append-nil))
