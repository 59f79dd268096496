-- The limits and rules that everything in a sheet keeps.
use Rattle.std.specs.Prelude.{◌≡◌, ◌≤◌, true, false, length}
use Rattle.std.specs.List.{AllByRecursion}
use Rattle.formats.specs.Bytes.{Short}
use Rattle.formats.specs.Names.{is_name}
use Rattle.pieces.specs.Described.{BodyText, one_text, head_and_tail, MemberText}
use Rattle.pieces.specs.Kept.{KeptFields}
use Rattle.pieces.specs.Layout.{rest_bytes}
use Rattle.sheet.specs.Described.{ClassText}
use Rattle.sheet.specs.Layout.{class_bytes}
use Rattle.sheet.specs.Rules.{Outline, begins_plain, lawful, settable}

-- what the rules look at
abbrev pub outlined : MemberText → Outline
outlined m = record {
  kind = m.head.kind;
  flags = m.head.flags;
  key_kind = m.head.key.kind;
  key_length = length m.head.key.text;
  decorators = length m.decorators;
  parameters = length m.parameters;
  plain_first = begins_plain (λ p. p.form) m.parameters;
  present = m.head.present;
}

abbrev pub Blank : BodyText → Type 0
Blank (one_text t) = length t ≡ 0
Blank (head_and_tail head tail) = (length head ≡ 0) × (length tail ≡ 0)

-- `absent`: where the value or body is not there, its texts are empty
pub record KeptRules (m : MemberText) : Type 0 where
  pub fields : KeptFields m
  pub absent : m.head.present ≡ false → Blank m.body
  pub rules : lawful (outlined m) ≡ true
  pub setter : settable (outlined m) ≡ true

abbrev pub KeptMember : MemberText → Type 0
KeptMember m = KeptRules m × Short (rest_bytes m)

pub record KeptParts (c : ClassText) : Type 0 where
  pub name : is_name c.name ≡ true
  pub superclass : Short c.superclass
  pub few_members : length c.members ≤ 64
  pub members : AllByRecursion KeptMember c.members

pub record KeptClass (c : ClassText) : Type 0 where
  pub parts : KeptParts c
  pub short : length (class_bytes c) ≤ 65535
