-- The record of a lowered class.
use Rattle.std.specs.Prelude.{ℕ, ◌+◌, Bool, true, false, cond, List, [], ◌∷◌, ◌++◌, map, is_some, Some, None, filter, Option}
use Rattle.std.specs.List.{flat_map}
use Rattle.std.specs.Option.{option_to_list}
use Rattle.formats.specs.declared.Place.{Place}
use Rattle.lists.specs.Listed.{listed}
use Rattle.pieces.specs.Codes.{kind_code}
use Rattle.pieces.specs.declared.codes.KeyKind.{KeyKind}
use Rattle.pieces.specs.declared.codes.KeyKind.TheVariants as kinds
use Rattle.pieces.specs.declared.parts.Parameter.{Parameter}
use Rattle.sheet.specs.Seen.{Seen}
use Rattle.rules.specs.declared.naming.Stem.TheVariants.{Args}
use Rattle.rules.specs.declared.naming.Name.{Name}
use Rattle.rules.specs.declared.describing.Assignment.{Assignment}
use Rattle.rules.specs.declared.describing.Code.{Code}
use Rattle.rules.specs.declared.describing.Descriptor.{Descriptor}
use Rattle.rules.specs.declared.describing.DescriptorKey.{DescriptorKey}
use Rattle.rules.specs.declared.describing.DescriptorKey.TheVariants.{Quoted, Written, Assigned}
use Rattle.rules.specs.declared.describing.Extra.{Extra}
use Rattle.rules.specs.declared.describing.Extra.TheVariants as extras
use Rattle.rules.specs.declared.describing.Function.{Function}
use Rattle.rules.specs.declared.describing.PrivateField.{PrivateField}
use Rattle.rules.specs.declared.describing.PrivateField.TheVariants as fields
use Rattle.rules.specs.declared.forming.Access.{Access}
use Rattle.rules.specs.declared.forming.Storage.{Storage}
use Rattle.rules.specs.declared.forming.MadeForm.{MadeForm}
use Rattle.rules.specs.declared.forming.MadeForm.TheVariants.{AsWritten, Initialized, Stored, StoredDecorated, Called}
use Rattle.rules.specs.declared.forming.Constructor.{Constructor}
use Rattle.rules.specs.declared.forming.Constructor.TheVariants as constructors
use Rattle.rules.specs.declared.forming.Frame.{Frame}
use Rattle.rules.specs.Members.{non_empty, starts, field_in, of_constructor, text_of}
use Rattle.rules.specs.Draws.{named, no_starters, constructor_calls, second_from, third_from, args_at}
use Rattle.rules.specs.Walks.{Applied, applied, Item, some_if, first_walk, second_walk, third_walk, assignments_from}

-- what a private method, getter or setter was, with a list where the code has an array
pub record Body : Type 0 where
  pub async : Bool
  pub generator : Bool
  pub parameters : List Parameter
  pub text : Option Place

pub data More : Type 0 where
  nothing : More
  function : Body → More
  reaches : PrivateField → Name → More

pub record Described : Type 0 where
  pub decorators : Applied
  pub code : Code
  pub key : DescriptorKey
  pub more : More

abbrev pub body_of : Function → Body
body_of f = record { async = f.is_async; generator = f.is_generator; parameters = listed f.parameters; text = f.body }

abbrev pub more_of : Option Extra → More
more_of None = nothing
more_of (Some (extras.Function f)) = function (body_of f)
more_of (Some (extras.Access field parameter)) = reaches field parameter

-- the number of the kind, and 5 more for a static member
abbrev pub code_number : Code → ℕ
code_number c = kind_code c.kind + cond c.is_static 5 0

abbrev pub described_of : Descriptor → Described
described_of d = record { decorators = applied d.decorators; code = d.code; key = d.key; more = more_of d.extra }

abbrev pub code : Seen → Code
code m = record { kind = m.kind; is_static = m.flags.is_static }

-- a string for an identifier, else what stands in the brackets
abbrev pub written_key : KeyKind → Place → DescriptorKey
written_key kinds.Identifier t = Quoted t
written_key kinds.Literal t = Written t
written_key kinds.ComputedIdentifier t = Written t
written_key kinds.Computed t = Written t

-- the name of the computed identifier that replaces the member's key, or else the key as the member has it
abbrev pub descriptor_key : Option Name → Seen → DescriptorKey
descriptor_key None m = written_key m.key.kind m.key.text
descriptor_key (Some name) m = Assigned name

abbrev pub old_function : Seen → Body
old_function m = record {
  async = m.flags.is_async;
  generator = m.flags.is_generator;
  parameters = m.parameters;
  text = text_of m.body;
}

-- a private field's own getter and setter
abbrev pub own_access : Option Name → Seen → More
own_access None m = nothing
own_access (Some parameter) m = reaches (fields.Written m.key.text) parameter

-- those of a private accessor's storage
abbrev pub storage_access : Option Access → Storage → Name → More
storage_access None storage parameter = nothing
storage_access (Some _) storage parameter = reaches (fields.Stored storage) parameter

abbrev pub more_for : MadeForm → Seen → More
more_for AsWritten m = nothing
more_for (Initialized init parameter) m = own_access parameter m
more_for (Stored storage value parameter) m = nothing
more_for (StoredDecorated storage init starts parameter access) m = storage_access access storage parameter
more_for (Called name) m = function (old_function m)

abbrev pub describe : Item → Described
describe i = record {
  decorators = i.decorators;
  code = code i.member;
  key = descriptor_key i.key i.member;
  more = more_for i.form i.member;
}

abbrev pub access_names : Option Access → List Name
access_names None = []
access_names (Some a) = a.getting ∷ a.setting ∷ []

-- Where a descriptor stands: by half, and in each half non-fields (true) ahead of fields (false).
abbrev pub in_group : Bool → Bool → Seen → Bool
in_group half true m = starts half m
in_group half false m = field_in half m

-- static non-fields, static fields, instance non-fields, instance fields, each in written order
abbrev pub in_order : {X : Type 0} → (X → Seen) → List X → List X
in_order f xs =
    filter (λ x. in_group true true (f x)) xs
    ++ (filter (λ x. in_group true false (f x)) xs
    ++ (filter (λ x. in_group false true (f x)) xs
    ++ filter (λ x. in_group false false (f x)) xs))

-- the starter of a half is drawn with its first decorated non-field
abbrev pub starter_of : Bool → List Item → Option Name
starter_of half [] = None
starter_of half (i ∷ is) = cond (starts half i.member) i.starter (starter_of half is)

-- The instance starter's call, where no storage's value has it: in the constructor with a body, or else in a new one, which stands
-- after the last constructor without body, or first. The members are those from number i on, and a new one would stand at `place`.
abbrev pub constructor_from : ℕ → List Seen → Option Name → ℕ → Constructor
constructor_from i [] args place = constructors.New place args
constructor_from i (m ∷ ms) args place =
    cond (of_constructor m.kind) (cond (is_some m.body) (constructors.Old i) (constructor_from (i + 1) ms args (i + 1)))
    (constructor_from (i + 1) ms args place)

abbrev pub constructor_of : Bool → List Seen → List ℕ → Constructor
constructor_of derived ms marks =
    cond (constructor_calls ms) (constructor_from 0 ms (some_if derived (named Args marks (args_at ms))) 0) constructors.AsWritten

-- What a lowering makes of a class.
pub record Record : Type 0 where
  pub assignments : List Assignment
  pub members : List Item
  pub descriptors : List Described
  pub names : List Name
  pub variables : List Name
  pub frame : Frame

abbrev pub empty_frame : Frame
empty_frame = record { instance_starter = None; static_starter = None; block = false; constructor = constructors.AsWritten }

abbrev pub empty_record : Record
empty_record = record { assignments = []; members = []; descriptors = []; names = []; variables = []; frame = empty_frame }

-- the names of a made form that walk 2 draws, and those that walk 3 draws, without starters and parameters
abbrev pub second_names : MadeForm → List Name
second_names AsWritten = []
second_names (Initialized init parameter) = []
second_names (Stored storage value parameter) = []
second_names (StoredDecorated storage init starts parameter access) = init.name ∷ access_names access
second_names (Called name) = name ∷ []

abbrev pub third_names : MadeForm → List Name
third_names AsWritten = []
third_names (Initialized init parameter) = init.name ∷ []
third_names (Stored storage value parameter) = []
third_names (StoredDecorated storage init starts parameter access) = []
third_names (Called name) = []

abbrev pub starter_names : List Item → List Name
starter_names is = option_to_list (starter_of false is) ++ option_to_list (starter_of true is)

-- The names that a made form uses, in the order of the results: in a value, in a getter and a setter, in a made body.
abbrev pub item_names : Item → List Name
item_names i = second_names i.form ++ third_names i.form

-- The record is put together from the assignments and the members with what the walks have made of them.
abbrev pub assembled : List Assignment → List Item → Constructor → Record
assembled assignments is constructor = record {
  assignments = assignments;
  members = is;
  descriptors = map describe (in_order (λ i. i.member) is);
  names = flat_map item_names (in_order (λ i. i.member) is) ++ starter_names is;
  variables =
      map (λ a. a.name) assignments
      ++ (flat_map (λ i. second_names i.form) is ++ (flat_map (λ i. third_names i.form) is ++ starter_names is));
  frame = record {
    instance_starter = starter_of false is;
    static_starter = starter_of true is;
    block = non_empty (in_order (λ i. i.member) is);
    constructor = constructor;
  };
}

-- the members with what the three walks make of them; n is the storage number before
abbrev pub items_of : List Seen → ℕ → List ℕ → List Item
items_of ms n marks =
    third_walk marks (third_from ms) (second_walk no_starters n marks (second_from ms) (first_walk marks 0 ms))

-- the record that the rules give for these members, derived or not, the storage number before, and the marks in the order drawn
abbrev pub lowered : List Seen → Bool → ℕ → List ℕ → Record
lowered ms derived n marks =
    assembled (assignments_from marks 0 ms) (items_of ms n marks) (constructor_of derived ms marks)
