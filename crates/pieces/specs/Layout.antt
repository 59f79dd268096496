-- The bytes of what a sheet says of a member.
use Rattle.std.specs.Prelude.{ℕ, List, ◌∷◌, ◌++◌}
use Rattle.formats.specs.Bytes.{text, list_of}
use Rattle.pieces.specs.Codes.{kind_code, flags_code, key_code, shape_code, form_code}
use Rattle.pieces.specs.Described.{KeyText, DecoratorText, ParameterText, HeadText, BodyText, one_text, head_and_tail, MemberText}

abbrev pub decorator_bytes : DecoratorText → List ℕ
decorator_bytes d = shape_code d.shape ∷ text d.text

abbrev pub parameter_bytes : ParameterText → List ℕ
parameter_bytes p = form_code p.form ∷ text p.text

abbrev pub key_bytes : KeyText → List ℕ
key_bytes k = key_code k.kind ∷ text k.text

abbrev pub head_bytes : HeadText → List ℕ
head_bytes h = kind_code h.kind ∷ flags_code h.flags h.present ∷ key_bytes h.key

abbrev pub body_bytes : BodyText → List ℕ
body_bytes (one_text t) = text t
body_bytes (head_and_tail head tail) = text head ++ text tail

-- what stands behind a member's length
abbrev pub rest_bytes : MemberText → List ℕ
rest_bytes m =
    head_bytes m.head
    ++ (list_of decorator_bytes m.decorators ++ (list_of parameter_bytes m.parameters ++ body_bytes m.body))
