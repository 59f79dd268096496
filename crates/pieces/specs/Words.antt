-- The words that tell what a member, its key, a decorator and a parameter are.
use Rattle.std.specs.Prelude.{ℕ, List, codes}
use Rattle.pieces.specs.declared.codes.Kind.{Kind}
use Rattle.pieces.specs.declared.codes.Kind.TheVariants as kind
use Rattle.pieces.specs.declared.codes.KeyKind.{KeyKind}
use Rattle.pieces.specs.declared.codes.KeyKind.TheVariants as key
use Rattle.pieces.specs.declared.codes.Shape.{Shape}
use Rattle.pieces.specs.declared.codes.Shape.TheVariants as shape
use Rattle.pieces.specs.declared.codes.Form.{Form}
use Rattle.pieces.specs.declared.codes.Form.TheVariants as form

abbrev pub kind_name : Kind → List ℕ
kind_name kind.Field = codes "field"
kind_name kind.Accessor = codes "accessor"
kind_name kind.Method = codes "method"
kind_name kind.Getter = codes "getter"
kind_name kind.Setter = codes "setter"
kind_name kind.Constructor = codes "constructor"
kind_name kind.Other = codes "other"

abbrev pub key_kind_name : KeyKind → List ℕ
key_kind_name key.Identifier = codes "identifier"
key_kind_name key.Literal = codes "string or number literal"
key_kind_name key.ComputedIdentifier = codes "computed identifier"
key_kind_name key.Computed = codes "computed"

abbrev pub shape_name : Shape → List ℕ
shape_name shape.Identifier = codes "identifier"
shape_name shape.Arrow = codes "arrow"
shape_name shape.Function = codes "function"
shape_name shape.Other = codes "other"

abbrev pub form_name : Form → List ℕ
form_name form.Plain = codes "plain"
form_name form.Other = codes "other"
