-- What the refusal of a source is told as.
use Rattle.refusals.specs.declared.Layer.TheVariants as layers
use Rattle.refusals.specs.declared.Numbered.{Numbered}
use Rattle.marks.specs.declared.source.Exhausted.{Exhausted}

abbrev pub marks_refusal : Exhausted → Numbered
marks_refusal e = record { number = 21; layer = layers.Marks; place = e.drawn }
