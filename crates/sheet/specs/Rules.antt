-- The rules that every member keeps.
use Rattle.std.specs.Prelude.{ℕ, Bool, true, false, not, ◌&&◌, ◌||◌, List, [], ◌∷◌, Some, None, Option, ◌==◌, nat_lt}
use Rattle.pieces.specs.declared.codes.Kind.{Kind}
use Rattle.pieces.specs.declared.codes.Kind.TheVariants as kinds
use Rattle.pieces.specs.declared.codes.KeyKind.{KeyKind}
use Rattle.pieces.specs.declared.codes.KeyKind.TheVariants as keys
use Rattle.pieces.specs.declared.codes.Form.{Form}
use Rattle.pieces.specs.declared.codes.Form.TheVariants as forms
use Rattle.pieces.specs.declared.codes.Flags.{Flags}
use Rattle.pieces.specs.declared.parts.Body.{Body}
use Rattle.pieces.specs.Codes.{key_code, form_code}
use Rattle.pieces.specs.Bodies.{is_kind, body_fits}

-- what the rules look at: of a text only its length
pub record Outline : Type 0 where
  pub kind : Kind
  pub flags : Flags
  pub key_kind : KeyKind
  pub key_length : ℕ
  pub decorators : ℕ
  pub parameters : ℕ
  pub plain_first : Bool
  pub present : Bool

abbrev pub implies : Bool → Bool → Bool
implies true b = b
implies false b = true

-- constructors and others
abbrev pub is_bare : Kind → Bool
is_bare k = is_kind k kinds.Constructor || is_kind k kinds.Other

-- methods, getters and setters
abbrev pub is_function : Kind → Bool
is_function k = is_kind k kinds.Method || (is_kind k kinds.Getter || is_kind k kinds.Setter)

-- fields, accessors and others
abbrev pub has_no_parameters : Kind → Bool
has_no_parameters k = is_kind k kinds.Field || (is_kind k kinds.Accessor || is_kind k kinds.Other)

abbrev pub is_plain_key : KeyKind → Bool
is_plain_key k = key_code k == key_code keys.Identifier

abbrev pub is_plain : Form → Bool
is_plain f = form_code f == form_code forms.Plain

-- whether there is a first parameter, and it is a plain identifier
abbrev pub begins_plain : {P : Type 0} → (P → Form) → List P → Bool
begins_plain form [] = false
begins_plain form (p ∷ ps) = is_plain (form p)

abbrev pub decorated : Outline → Bool
decorated m = nat_lt 0 m.decorators

-- constructors and others are neither decorated, static nor private, and have an empty key that is an identifier
abbrev pub bare_kept : Outline → Bool
bare_kept m =
    implies (is_bare m.kind)
    (not (decorated m)
    && (not m.flags.is_static && (not m.flags.is_private && (is_plain_key m.key_kind && m.key_length == 0))))

-- a decorated method, getter or setter has a body
abbrev pub body_kept : Outline → Bool
body_kept m = implies (is_function m.kind && decorated m) m.present

-- fields, accessors and others have no parameters
abbrev pub parameters_kept : Outline → Bool
parameters_kept m = implies (has_no_parameters m.kind) (m.parameters == 0)

-- declare stands on undecorated public fields only
abbrev pub declare_kept : Outline → Bool
declare_kept m = implies m.flags.is_declared (is_kind m.kind kinds.Field && (not (decorated m) && not m.flags.is_private))

-- async and generator stand on methods only
abbrev pub method_kept : Outline → Bool
method_kept m = implies (m.flags.is_async || m.flags.is_generator) (is_kind m.kind kinds.Method)

-- a private key is an identifier
abbrev pub private_kept : Outline → Bool
private_kept m = implies m.flags.is_private (is_plain_key m.key_kind)

-- every rule but the setter's
abbrev pub lawful : Outline → Bool
lawful m =
    (bare_kept m && (body_kept m && parameters_kept m)) && (declare_kept m && (method_kept m && private_kept m))

-- the first parameter of a decorated private setter is a plain identifier
abbrev pub settable : Outline → Bool
settable m = implies (is_kind m.kind kinds.Setter && (m.flags.is_private && decorated m)) m.plain_first

-- where there is a body, it is one of that kind of member
abbrev pub fits : Kind → Option Body → Bool
fits k None = true
fits k (Some b) = body_fits k b
