-- The line that tells a refusal.
use Rattle.std.specs.Prelude.{ℕ, List, ◌++◌, codes, decimal}
use Rattle.refusals.specs.declared.Layer.{Layer}
use Rattle.refusals.specs.declared.Layer.TheVariants.{Reading, Members, Marks}
use Rattle.refusals.specs.declared.Numbered.{Numbered}

abbrev pub layer_name : Layer → List ℕ
layer_name Reading = codes "reading"
layer_name Members = codes "members"
layer_name Marks = codes "marks"

abbrev pub told : Numbered → List ℕ
told r = codes "refused " ++ (decimal r.number ++ (codes " " ++ (layer_name r.layer ++ (codes " " ++ decimal r.place))))
