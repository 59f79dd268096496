-- A member as a sheet has it.
use Rattle.std.specs.Prelude.{ℕ, Bool, true, false, cond, ◌&&◌, List, take, Some, None, Ok, Err, Option, Result, ◌==◌}
use Rattle.formats.specs.Readers.{then, faulted}
use Rattle.formats.specs.Reading.{end, text_at}
use Rattle.pieces.specs.declared.parts.Body.{Body}
use Rattle.pieces.specs.declared.parts.Body.TheVariants.{Text, Constructor}
use Rattle.sheet.specs.declared.member.Member.{Member}
use Rattle.sheet.specs.declared.refusal.MemberFault.{MemberFault}
use Rattle.sheet.specs.declared.refusal.MemberFault.TheVariants.{BrokenRule, SetterParameter}
use Rattle.refusals.specs.declared.Numbered.{Numbered}
use Rattle.sheet.specs.declared.refusal.Refusal.{Refusal}
use Rattle.sheet.specs.Refusals.{refusal_of, reading, members}
use Rattle.sheet.specs.Rules.{lawful, settable}
use Rattle.sheet.specs.Seen.{Seen, seen_parts, outline}
use Rattle.pieces.specs.Fields.{Fields, fields_at}

abbrev pub is_blank : Body → Bool
is_blank (Text p) = p.length == 0
is_blank (Constructor head tail) = head.length == 0 && tail.length == 0

-- where the value or body is not there, its texts are empty
abbrev pub body_of : Bool → Body → ℕ → Result (Option Body) MemberFault
body_of true body at = Ok (Some body)
body_of false body at = cond (is_blank body) (Ok None) (Err (BrokenRule at))

-- a member that keeps the rules
abbrev pub ruled : Seen → ℕ → Result Seen MemberFault
ruled m at =
    cond (lawful (outline m)) (cond (settable (outline m)) (Ok m) (Err (SetterParameter at))) (Err (BrokenRule at))

abbrev pub member_of : Fields → ℕ → Result Seen MemberFault
member_of f at =
    then (body_of f.head.present f.body at)
    (λ body. ruled (record {
      kind = f.head.kind;
      flags = f.head.flags;
      key = f.head.key;
      decorators = f.decorators;
      parameters = f.parameters;
      body = body;
    }) at)

abbrev pub member_at : List ℕ → ℕ → Result (Seen × ℕ) (Option Numbered)
member_at s at =
    then (faulted reading (text_at s at))
    (λ rest. then (faulted reading (fields_at (take (end rest) s) rest.start))
    (λ f. then (faulted members (member_of f at))
    (λ m. Ok (m, end rest))))

abbrev pub seen_member : Member → Seen
seen_member m = seen_parts m.parts

abbrev pub made_in : Result Member MemberFault → Result Seen MemberFault
made_in (Ok m) = Ok (seen_member m)
made_in (Err e) = Err e

abbrev pub seen : Result Member Refusal → Result Seen (Option Numbered)
seen (Ok m) = Ok (seen_member m)
seen (Err e) = Err (refusal_of e)
