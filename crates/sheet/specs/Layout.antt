-- The bytes of what a sheet describes.
use Rattle.std.specs.Prelude.{ℕ, List, ◌∷◌, ◌++◌}
use Rattle.formats.specs.Bytes.{text, list_of}
use Rattle.pieces.specs.Described.{MemberText}
use Rattle.pieces.specs.Layout.{rest_bytes}
use Rattle.sheet.specs.Described.{ClassText}

abbrev pub member_bytes : MemberText → List ℕ
member_bytes m = text (rest_bytes m)

-- a sheet of version 1
abbrev pub class_bytes : ClassText → List ℕ
class_bytes c = 1 ∷ (text c.name ++ (text c.superclass ++ list_of member_bytes c.members))
