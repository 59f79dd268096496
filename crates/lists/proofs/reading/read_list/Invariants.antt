use Rattle.std.proofs.Common.{◌≡◌, ◌+◌, ◌-◌, [], length}
use Rattle.formats.specs.Cursors.{bytes_in}
use Rattle.formats.specs.Readers.{items}
use Rattle.lists.specs.Listed.{listed}
use Rattle.lists.proofs.reading.read_list.Given as goal

-- reading on from here, with the items that are left, gives what reading all gives
abbrev pub invariant-loop : goal.invariant-loop
invariant-loop g l =
    let read = g.T.Item.reads (bytes_in l.initial.cursor) in
    (length (listed l.list) ≡ l.counter)
    × (l.next.sheet ≡ l.initial.cursor.sheet)
    × (items read (l.count - l.counter) (listed l.list) l.next.at ≡ items read l.count [] (l.at + 1))
