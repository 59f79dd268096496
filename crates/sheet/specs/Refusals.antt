-- What every refusal is told as: its number, its layer and its place.
use Rattle.std.specs.Prelude.{Some, None, Option}
use Rattle.formats.specs.declared.ReadFault.{ReadFault}
use Rattle.formats.specs.Refusals.{reading_refusal}
use Rattle.sheet.specs.declared.refusal.MemberFault.{MemberFault}
use Rattle.sheet.specs.declared.refusal.MemberFault.TheVariants.{BrokenRule, SetterParameter}
use Rattle.refusals.specs.declared.Layer.TheVariants as layers
use Rattle.refusals.specs.declared.Numbered.{Numbered}
use Rattle.sheet.specs.declared.refusal.Refusal.{Refusal}
use Rattle.sheet.specs.declared.refusal.Refusal.TheVariants.{Reading, Members, Memory}

abbrev pub members_refusal : MemberFault → Numbered
members_refusal (BrokenRule at) = record { number = 6; layer = layers.Members; place = at }
members_refusal (SetterParameter at) = record { number = 7; layer = layers.Members; place = at }

-- want of memory has no number
abbrev pub refusal_of : Refusal → Option Numbered
refusal_of (Reading f) = Some (reading_refusal f)
refusal_of (Members f) = Some (members_refusal f)
refusal_of Memory = None

-- faults of the two layers, as they are handed up
abbrev pub reading : ReadFault → Option Numbered
reading f = Some (reading_refusal f)

abbrev pub members : MemberFault → Option Numbered
members f = Some (members_refusal f)
