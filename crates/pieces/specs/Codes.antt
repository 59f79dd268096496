-- The codes of a member, each with what it stands for.
use Rattle.std.specs.Prelude.{◌≡◌, ℕ, ◌+◌, ◌/◌, ◌%◌, Bool, true, false, cond, List, [], ◌∷◌, Ok, Err, Result, ◌==◌, nat_lt}
use Rattle.formats.specs.declared.ReadFault.{ReadFault}
use Rattle.formats.specs.declared.ReadFault.TheVariants.{Unknown}
use Rattle.pieces.specs.declared.codes.Kind.{Kind}
use Rattle.pieces.specs.declared.codes.Kind.TheVariants as kind
use Rattle.pieces.specs.declared.codes.KeyKind.{KeyKind}
use Rattle.pieces.specs.declared.codes.KeyKind.TheVariants as key
use Rattle.pieces.specs.declared.codes.Shape.{Shape}
use Rattle.pieces.specs.declared.codes.Shape.TheVariants as shape
use Rattle.pieces.specs.declared.codes.Form.{Form}
use Rattle.pieces.specs.declared.codes.Form.TheVariants as form
use Rattle.pieces.specs.declared.codes.Flags.{Flags}
use Rattle.pieces.specs.declared.codes.FlagByte.{FlagByte}
use Rattle.pieces.specs.declared.codes.UnknownCode.{UnknownCode}
use Rattle.formats.specs.Readers.{then, faulted}
use Rattle.formats.specs.Reading.{byte_at}

-- the one of `ks` whose code is `a`, which stands at `at`
abbrev pub decoded : {K : Type 0} → (K → ℕ) → List K → ℕ → ℕ → Result K ReadFault
decoded code [] a at = Err (Unknown at)
decoded code (k ∷ ks) a at = cond (a == code k) (Ok k) (decoded code ks a at)

-- what a byte is taken for: the one of `ks` whose code it is, and at any place the fault of a byte that is no code
abbrev pub Decodes : {K : Type 0} → (K → ℕ) → List K → ℕ → Result K UnknownCode → Type 0
Decodes code ks a r = (at : ℕ) → faulted (λ _. Unknown at) r ≡ decoded code ks a at

-- a byte that is read as something
abbrev pub code_and_next : {K : Type 0} → (ℕ → ℕ → Result K ReadFault) → List ℕ → ℕ → Result (K × ℕ) ReadFault
code_and_next of s at = then (byte_at s at) (λ a. then (of a at) (λ k. Ok (k, at + 1)))

abbrev pub kind_code : Kind → ℕ
kind_code kind.Field = 0
kind_code kind.Accessor = 1
kind_code kind.Method = 2
kind_code kind.Getter = 3
kind_code kind.Setter = 4
kind_code kind.Constructor = 5
kind_code kind.Other = 6

abbrev pub all_kinds : List Kind
all_kinds = kind.Field ∷ kind.Accessor ∷ kind.Method ∷ kind.Getter ∷ kind.Setter ∷ kind.Constructor ∷ kind.Other ∷ []

abbrev pub kind_of : ℕ → ℕ → Result Kind ReadFault
kind_of = decoded kind_code all_kinds

abbrev pub key_code : KeyKind → ℕ
key_code key.Identifier = 0
key_code key.Literal = 1
key_code key.ComputedIdentifier = 2
key_code key.Computed = 3

abbrev pub all_key_kinds : List KeyKind
all_key_kinds = key.Identifier ∷ key.Literal ∷ key.ComputedIdentifier ∷ key.Computed ∷ []

abbrev pub key_kind_of : ℕ → ℕ → Result KeyKind ReadFault
key_kind_of = decoded key_code all_key_kinds

abbrev pub shape_code : Shape → ℕ
shape_code shape.Identifier = 0
shape_code shape.Arrow = 1
shape_code shape.Function = 2
shape_code shape.Other = 3

abbrev pub all_shapes : List Shape
all_shapes = shape.Identifier ∷ shape.Arrow ∷ shape.Function ∷ shape.Other ∷ []

abbrev pub shape_of : ℕ → ℕ → Result Shape ReadFault
shape_of = decoded shape_code all_shapes

abbrev pub form_code : Form → ℕ
form_code form.Other = 0
form_code form.Plain = 1

abbrev pub all_forms : List Form
all_forms = form.Other ∷ form.Plain ∷ []

abbrev pub form_of : ℕ → ℕ → Result Form ReadFault
form_of = decoded form_code all_forms

-- whether the flag of that value is set
abbrev pub flag : ℕ → ℕ → Bool
flag value a = a / value % 2 == 1

abbrev pub flags_of : ℕ → ℕ → Result (Flags × Bool) ReadFault
flags_of a at =
    cond (nat_lt a 64)
    (Ok (
      record {
        is_static = flag 1 a;
        is_private = flag 2 a;
        is_async = flag 8 a;
        is_generator = flag 16 a;
        is_declared = flag 32 a;
      },
      flag 4 a,
    ))
    (Err (Unknown at))

-- the flags, and whether the value or body is there
abbrev pub flag_byte_of : ℕ → ℕ → Result FlagByte ReadFault
flag_byte_of a at = then (flags_of a at) (λ f. Ok (record { flags = f.0; present = f.1 }))

abbrev pub HasFlags : ℕ → Result FlagByte UnknownCode → Type 0
HasFlags a r = (at : ℕ) → faulted (λ _. Unknown at) r ≡ flag_byte_of a at

-- the value of a flag, where it is set
abbrev pub bit : Bool → ℕ → ℕ
bit true value = value
bit false value = 0

-- the byte of the flags, with the one that says that the value or body is there
abbrev pub flags_code : Flags → Bool → ℕ
flags_code f present =
    bit f.is_static 1 + (bit f.is_private 2 + (bit present 4
    + (bit f.is_async 8 + (bit f.is_generator 16 + bit f.is_declared 32))))
