-- What the refusals of a run are told as.
use Rattle.refusals.specs.declared.Layer.TheVariants as layers
use Rattle.refusals.specs.declared.Numbered.{Numbered}
use Rattle.marks.specs.Refusals.{marks_refusal}
use Rattle.lowering.specs.declared.faults.ClassFault.{ClassFault}
use Rattle.lowering.specs.declared.faults.ClassFault.TheVariants.{Constructor, TooMany, StorageNumber}
use Rattle.lowering.specs.declared.faults.LowerFault.{LowerFault}
use Rattle.lowering.specs.declared.faults.LowerFault.TheVariants.{Members, Marks}

abbrev pub class_refusal : ClassFault → Numbered
class_refusal (Constructor member) = record { number = 8; layer = layers.Members; place = member }
class_refusal TooMany = record { number = 11; layer = layers.Members; place = 64 }
class_refusal (StorageNumber member) = record { number = 13; layer = layers.Members; place = member }

abbrev pub lower_refusal : LowerFault → Numbered
lower_refusal (Members f) = class_refusal f
lower_refusal (Marks e) = marks_refusal e
