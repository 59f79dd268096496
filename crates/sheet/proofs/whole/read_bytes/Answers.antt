use Rattle.std.proofs.Common.{◌≡◌, ◌≤◌, cond, length, Err, sym, ap, ◌∙◌, subst, arith}
use Rattle.std.proofs.lemmas.List.{take_all}
use Rattle.std.proofs.lemmas.Bool.{le-ltb}
use Rattle.formats.specs.declared.ReadFault.TheVariants.{Spare}
use Rattle.formats.specs.Reading.{bytes_of}
use Rattle.sheet.specs.Refusals.{reading}
use Rattle.sheet.specs.Classes.{Answers, Opened, class_at, sheet_at, seen_sheet}
use Rattle.sheet.proofs.whole.read_bytes.Goals as goal

pub returns : goal.returns
returns c =
    let s = c.args.bytes.now in
    let short : length s ≤ 65535 = omega arith in
    let r = seen_sheet c.read_class.result in
    let all : bytes_of c.first.result ≡ s = c.first.ensures ∙ take_all 65535 s short in
    let same : class_at s ≡ sheet_at s = sym (ap (λ b. cond b (Err (reading (Spare 65535))) (class_at s)) (le-ltb 65535 (length s) short)) in
    let here : Answers (Opened s) r (class_at s) = subst (λ w. Answers (Opened w) r (class_at w)) all c.read_class.ensures in
    subst (λ e. Answers (Opened s) r e) same here
