-- What a sheet says of a member, its texts as bytes.
use Rattle.std.specs.Prelude.{ℕ, Bool, List}
use Rattle.pieces.specs.declared.codes.Kind.{Kind}
use Rattle.pieces.specs.declared.codes.Flags.{Flags}
use Rattle.pieces.specs.declared.codes.KeyKind.{KeyKind}
use Rattle.pieces.specs.declared.codes.Shape.{Shape}
use Rattle.pieces.specs.declared.codes.Form.{Form}

pub record KeyText : Type 0 where
  pub kind : KeyKind
  pub text : List ℕ

pub record DecoratorText : Type 0 where
  pub shape : Shape
  pub text : List ℕ

pub record ParameterText : Type 0 where
  pub form : Form
  pub text : List ℕ

-- `present` says whether the value or body is there
pub record HeadText : Type 0 where
  pub kind : Kind
  pub flags : Flags
  pub present : Bool
  pub key : KeyText

pub data BodyText : Type 0 where
  one_text : List ℕ → BodyText
  head_and_tail : List ℕ → List ℕ → BodyText

pub record MemberText : Type 0 where
  pub head : HeadText
  pub decorators : List DecoratorText
  pub parameters : List ParameterText
  pub body : BodyText
