use Rattle.std.proofs.Common.{◌≡◌, ◌-◌, ◌≤◌, [], map, vec_items, vec_len, vec_capacity}
use Rattle.formats.specs.Cursors.{bytes_in}
use Rattle.formats.specs.Readers.{items}
use Rattle.sheet.specs.Members.{member_at, seen_member}
use Rattle.sheet.proofs.whole.read_members.Given as goal

-- there is room for all, and reading on from here, with the members that are left, gives what reading all gives
abbrev pub invariant-loop : goal.invariant-loop
invariant-loop l =
    let read = member_at (bytes_in l.initial.cursor) in
    (vec_len l.members ≡ l.counter)
    × (l.count ≤ vec_capacity l.members)
    × (l.cursor.sheet ≡ l.initial.cursor.sheet)
    × (items read (l.count - l.counter) (map seen_member (vec_items l.members)) l.cursor.at ≡ items read l.count [] l.initial.cursor.at)
