-- What the faults of a sheet are told as.
use Rattle.refusals.specs.declared.Layer.TheVariants as layers
use Rattle.refusals.specs.declared.Numbered.{Numbered}
use Rattle.formats.specs.declared.ReadFault.{ReadFault}
use Rattle.formats.specs.declared.ReadFault.TheVariants.{Version, CutShort, Spare, Unknown, NoName}

abbrev pub reading_refusal : ReadFault → Numbered
reading_refusal Version = record { number = 1; layer = layers.Reading; place = 0 }
reading_refusal (CutShort at) = record { number = 2; layer = layers.Reading; place = at }
reading_refusal (Spare at) = record { number = 3; layer = layers.Reading; place = at }
reading_refusal (Unknown at) = record { number = 4; layer = layers.Reading; place = at }
reading_refusal (NoName at) = record { number = 5; layer = layers.Reading; place = at }
