use Rattle.std.proofs.Common.{◌≡◌, ◌+◌, ◌-◌, map, Ok, Err, vec_items, sym, ap, ◌∙◌, arith}
use Rattle.std.proofs.lemmas.Result.{err_from_is_err_and}
use Rattle.formats.specs.Cursors.{bytes_in, with_next}
use Rattle.formats.specs.Readers.{items}
use Rattle.formats.specs.Reading.{bytes_of}
use Rattle.formats.proofs.Items.{items_read, items_fault}
use Rattle.sheet.specs.Refusals.{refusal_of}
use Rattle.sheet.specs.Members.{member_at, seen_member}
use Rattle.sheet.specs.Classes.{seen_members}
use Rattle.sheet.proofs.Answered.{answers}
use Rattle.sheet.proofs.whole.read_members.Goals as goal

pub returns-in_err-member-clause-members : goal.returns-in_err-member-clause-members
returns-in_err-member-clause-members c =
    let p = err_from_is_err_and c.from_residual-in_err-member.result c.from_residual-in_err-member.ensures.1 in
    let read = member_at (bytes_in c.args.cursor.now) in
    let at = c.loop.cursor.at in
    let f = refusal_of c.in_err-member.field-0.0 in
    let same = ap (λ s. member_at (bytes_of s) at) c.loop.invariant.2 in
    let is : read at ≡ Err f = sym (c.in_err-member.ensures.0 ∙ same) in
    let st = items_fault read c.args.count c.loop.counter (map seen_member (vec_items c.loop.members)) at f c.loop-test.true is in
    answers (with_next (seen_members c.from_residual-in_err-member.result) c.read_member.new.cursor.at) _ tt
    (ap (λ r. with_next (seen_members r) c.read_member.new.cursor.at) (p.1 ∙ ap Err p.2) ∙ (sym st ∙ c.loop.invariant.3))

pub loop-preserved : goal.loop-preserved
loop-preserved c =
    let read = member_at (bytes_in c.args.cursor.now) in
    let n = c.args.count in
    let i = c.loop.counter in
    let at = c.loop.cursor.at in
    let m = c.in_ok-member.member in
    let next = c.read_member.new.cursor.at in
    let same = ap (λ s. member_at (bytes_of s) at) c.loop.invariant.2 in
    let is : read at ≡ Ok (seen_member m, next) = sym (c.in_ok-member.ensures.0 ∙ same) in
    let st = items_read read seen_member n i (vec_items c.loop.members) at m next c.loop-test.true is in (
      omega (arith, c.push_reserved.ensures.len, c.loop.invariant.0),
      omega (arith, c.push_reserved.ensures.capacity, c.loop.invariant.1),
      c.in_ok-member.ensures.1 ∙ c.loop.invariant.2,
      ap (λ l. items read (n - (i + 1)) (map seen_member l) next) c.push_reserved.ensures.items ∙ (sym st ∙ c.loop.invariant.3),
    )
