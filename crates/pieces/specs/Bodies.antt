-- Kinds of members told apart, and which have a head and a tail, and which one text.
use Rattle.std.specs.Prelude.{Bool, not, ◌==◌}
use Rattle.pieces.specs.declared.codes.Kind.{Kind}
use Rattle.pieces.specs.declared.codes.Kind.TheVariants as kinds
use Rattle.pieces.specs.declared.parts.Body.{Body}
use Rattle.pieces.specs.declared.parts.Body.TheVariants.{Text, Constructor}
use Rattle.pieces.specs.Codes.{kind_code}

-- whether two kinds are the same
abbrev pub is_kind : Kind → Kind → Bool
is_kind k l = kind_code k == kind_code l

abbrev pub is_constructor : Kind → Bool
is_constructor k = is_kind k kinds.Constructor

-- a constructor has a head and a tail, and any other member one text
abbrev pub body_fits : Kind → Body → Bool
body_fits k (Text p) = not (is_constructor k)
body_fits k (Constructor head tail) = is_constructor k
