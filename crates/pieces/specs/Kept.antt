-- The limits that the fields of a member keep.
use Rattle.std.specs.Prelude.{◌≡◌, ℕ, ◌≤◌, Bool, true, false, List, length}
use Rattle.std.specs.List.{AllByRecursion}
use Rattle.formats.specs.Bytes.{Short}
use Rattle.formats.specs.Names.{is_name}
use Rattle.pieces.specs.declared.codes.Kind.{Kind}
use Rattle.pieces.specs.Bodies.{is_constructor}
use Rattle.pieces.specs.Described.{KeyText, DecoratorText, ParameterText, HeadText, BodyText, one_text, head_and_tail, MemberText}
use Rattle.pieces.specs.Parts.{names_key, names_shape, names_form}

-- a text that is a name where it has to be one
pub record KeptText (must : Bool) (t : List ℕ) : Type 0 where
  pub short : Short t
  pub named : must ≡ true → is_name t ≡ true

abbrev pub KeptDecorator : DecoratorText → Type 0
KeptDecorator d = KeptText (names_shape d.shape) d.text

abbrev pub KeptParameter : ParameterText → Type 0
KeptParameter p = KeptText (names_form p.form) p.text

abbrev pub KeptKey : Kind → KeyText → Type 0
KeptKey of k = KeptText (names_key of k.kind) k.text

abbrev pub KeptHead : HeadText → Type 0
KeptHead h = KeptKey h.kind h.key

-- of a constructor, or of another member
abbrev pub KeptBody : Bool → BodyText → Type 0
KeptBody constructor (one_text t) = (constructor ≡ false) × Short t
KeptBody constructor (head_and_tail head tail) = (constructor ≡ true) × Short head × Short tail

pub record KeptFields (m : MemberText) : Type 0 where
  pub head : KeptHead m.head
  pub few_decorators : length m.decorators ≤ 8
  pub decorators : AllByRecursion KeptDecorator m.decorators
  pub few_parameters : length m.parameters ≤ 16
  pub parameters : AllByRecursion KeptParameter m.parameters
  pub body : KeptBody (is_constructor m.head.kind) m.body
