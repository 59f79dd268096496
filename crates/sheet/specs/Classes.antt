-- What is read of a whole sheet.
use Rattle.std.specs.Prelude.{◌≡◌, ℕ, ◌≤◌, true, cond, List, [], map, length, is_ok, Some, None, Ok, Err, vec_items, Option, Result, Vec, nat_lt}
use Rattle.std.specs.declared.alloc.Global.{Global}
use Rattle.formats.specs.declared.Place.{Place}
use Rattle.formats.specs.declared.ReadFault.TheVariants.{Spare}
use Rattle.formats.specs.Readers.{then, items, faulted}
use Rattle.sheet.specs.declared.class.Class.{Class}
use Rattle.sheet.specs.declared.member.Member.{Member}
use Rattle.refusals.specs.declared.Numbered.{Numbered}
use Rattle.sheet.specs.declared.refusal.Refusal.{Refusal}
use Rattle.sheet.specs.Refusals.{refusal_of, reading}
use Rattle.sheet.specs.Seen.{Seen}
use Rattle.sheet.specs.Members.{member_at, seen_member}
use Rattle.sheet.specs.Opening.{opening_at}

-- a class, with lists
pub record SeenClass : Type 0 where
  pub name : Place
  pub superclass : Option Place
  pub members : List Seen

-- so many members from `at` on
abbrev pub members_at : List ℕ → ℕ → ℕ → Result (List Seen × ℕ) (Option Numbered)
members_at s count at = items (member_at s) count [] at

abbrev pub class_at : List ℕ → Result SeenClass (Option Numbered)
class_at s =
    then (faulted reading (opening_at s))
    (λ o. then (members_at s o.0.count o.1)
    (λ ms. cond (nat_lt ms.1 (length s)) (Err (reading (Spare ms.1)))
    (Ok (record { name = o.0.name; superclass = o.0.superclass; members = ms.0 }))))

-- the class that the bytes describe, or the refusal
abbrev pub sheet_at : List ℕ → Result SeenClass (Option Numbered)
sheet_at s = cond (nat_lt 65535 (length s)) (Err (reading (Spare 65535))) (class_at s)

abbrev pub seen_members : Result (Vec Member Global) Refusal → Result (List Seen) (Option Numbered)
seen_members (Ok ms) = Ok (map seen_member (vec_items ms))
seen_members (Err e) = Err (refusal_of e)

abbrev pub seen_class : Class → SeenClass
seen_class c = record { name = c.name; superclass = c.superclass; members = map seen_member (vec_items c.members) }

abbrev pub seen_sheet : Result Class Refusal → Result SeenClass (Option Numbered)
seen_sheet (Ok c) = Ok (seen_class c)
seen_sheet (Err e) = Err (refusal_of e)

-- an answer is the one that is expected, or memory was wanting, of which is known only `P`
abbrev pub Answers : {A : Type 0} → Type 0 → Result A (Option Numbered) → Result A (Option Numbered) → Type 0
Answers P (Ok x) expected = Ok x ≡ expected
Answers P (Err (Some n)) expected = Err (Some n) ≡ expected
Answers P (Err None) expected = P

-- memory is asked for once the bytes before the members are read
abbrev pub Opened : List ℕ → Type 0
Opened s = (length s ≤ 65535) × (is_ok (opening_at s) ≡ true)
