-- What the rules ask of a member.
use Rattle.std.specs.Prelude.{Bool, true, false, cond, not, ◌&&◌, ◌||◌, List, [], ◌∷◌, is_some, Some, None, Option}
use Rattle.formats.specs.declared.Place.{Place}
use Rattle.pieces.specs.declared.codes.Kind.{Kind}
use Rattle.pieces.specs.declared.codes.Kind.TheVariants.{Field, Accessor, Method, Getter, Setter, Constructor, Other}
use Rattle.pieces.specs.declared.codes.KeyKind.{KeyKind}
use Rattle.pieces.specs.declared.codes.KeyKind.TheVariants.{Identifier, Literal, ComputedIdentifier, Computed}
use Rattle.pieces.specs.declared.codes.Shape.{Shape}
use Rattle.pieces.specs.declared.codes.Shape.TheVariants as shapes
use Rattle.pieces.specs.declared.parts.Decorator.{Decorator}
use Rattle.pieces.specs.declared.parts.Body.{Body}
use Rattle.pieces.specs.declared.parts.Body.TheVariants.{Text, Constructor as Halves}
use Rattle.sheet.specs.Seen.{Seen}
use Rattle.rules.specs.declared.treating.Treatment.{Treatment}
use Rattle.rules.specs.declared.treating.Treatment.TheVariants.{Untouched, Stored, DecoratedField, DecoratedAccessor, DecoratedElement}

abbrev pub non_empty : {X : Type 0} → List X → Bool
non_empty [] = false
non_empty (_ ∷ _) = true

abbrev pub any_of : {X : Type 0} → (X → Bool) → List X → Bool
any_of p [] = false
any_of p (x ∷ xs) = p x || any_of p xs

-- by its kind, whether it is private, and whether it is decorated
abbrev pub treatment_of : Kind → Bool → Bool → Treatment
treatment_of Field private decorated = cond decorated (DecoratedField private) Untouched
treatment_of Accessor private decorated = cond decorated (DecoratedAccessor private) Stored
treatment_of Method private decorated = cond decorated (DecoratedElement private) Untouched
treatment_of Getter private decorated = cond decorated (DecoratedElement private) Untouched
treatment_of Setter private decorated = cond decorated (DecoratedElement private) Untouched
treatment_of Constructor private decorated = Untouched
treatment_of Other private decorated = Untouched

abbrev pub treatment : Seen → Treatment
treatment m = treatment_of m.kind m.flags.is_private (non_empty m.decorators)

-- decorated fields
abbrev pub is_field : Treatment → Bool
is_field Untouched = false
is_field Stored = false
is_field (DecoratedField _) = true
is_field (DecoratedAccessor _) = false
is_field (DecoratedElement _) = false

-- decorated accessors
abbrev pub is_accessor : Treatment → Bool
is_accessor Untouched = false
is_accessor Stored = false
is_accessor (DecoratedField _) = false
is_accessor (DecoratedAccessor _) = true
is_accessor (DecoratedElement _) = false

-- decorated accessors, methods, getters and setters
abbrev pub is_non_field : Treatment → Bool
is_non_field Untouched = false
is_non_field Stored = false
is_non_field (DecoratedField _) = false
is_non_field (DecoratedAccessor _) = true
is_non_field (DecoratedElement _) = true

abbrev pub decorated : Seen → Bool
decorated m = is_field (treatment m) || is_non_field (treatment m)

-- A half is the static one (true) or the instance one (false).
abbrev pub same_half : Bool → Bool → Bool
same_half true static = static
same_half false static = not static

-- a decorated non-field of the half
abbrev pub starts : Bool → Seen → Bool
starts half m = is_non_field (treatment m) && same_half half m.flags.is_static

-- a decorated field of the half
abbrev pub field_in : Bool → Seen → Bool
field_in half m = is_field (treatment m) && same_half half m.flags.is_static

-- a decorated instance accessor: the value of the first one calls the instance starter
abbrev pub holds_call : Seen → Bool
holds_call m = is_accessor (treatment m) && not m.flags.is_static

abbrev pub of_constructor : Kind → Bool
of_constructor Field = false
of_constructor Accessor = false
of_constructor Method = false
of_constructor Getter = false
of_constructor Setter = false
of_constructor Constructor = true
of_constructor Other = false

abbrev pub of_accessor : Kind → Bool
of_accessor Field = false
of_accessor Accessor = true
of_accessor Method = false
of_accessor Getter = false
of_accessor Setter = false
of_accessor Constructor = false
of_accessor Other = false

abbrev pub accessor : Seen → Bool
accessor m = of_accessor m.kind

-- a constructor with a body
abbrev pub built : Seen → Bool
built m = of_constructor m.kind && is_some m.body

-- the members that walk 1 takes
abbrev pub taken_of : Kind → Bool → Bool → Bool
taken_of Field declared present = not declared
taken_of Accessor declared present = true
taken_of Method declared present = present
taken_of Getter declared present = present
taken_of Setter declared present = present
taken_of Constructor declared present = false
taken_of Other declared present = false

abbrev pub taken : Seen → Bool
taken m = taken_of m.kind m.flags.is_declared (is_some m.body)

-- a decorator that is evaluated ahead of the class
abbrev pub shape_taken_out : Shape → Bool
shape_taken_out shapes.Identifier = false
shape_taken_out shapes.Arrow = false
shape_taken_out shapes.Function = false
shape_taken_out shapes.Other = true

abbrev pub taken_out : Bool → Decorator → Bool
taken_out walked d = walked && shape_taken_out d.shape

-- a key that is evaluated ahead of the class
abbrev pub key_taken_out : KeyKind → Bool
key_taken_out Identifier = false
key_taken_out Literal = true
key_taken_out ComputedIdentifier = false
key_taken_out Computed = true

-- a key that walk 1 replaces
abbrev pub replaced : Seen → Bool
replaced m = taken m && (not m.flags.is_private && key_taken_out m.key.kind)

-- the text of a value or of a function's body
abbrev pub text_of : Option Body → Option Place
text_of None = None
text_of (Some (Text p)) = Some p
text_of (Some (Halves head tail)) = None
