-- The three walks: what each member is made into.
use Rattle.std.specs.Prelude.{ℕ, ◌+◌, Bool, true, false, cond, not, ◌&&◌, List, [], ◌∷◌, ◌++◌, length, Some, None, Option}
use Rattle.lists.specs.Listed.{listed}
use Rattle.pieces.specs.declared.parts.Decorator.{Decorator}
use Rattle.sheet.specs.Seen.{Seen}
use Rattle.sheet.specs.Members.{seen_member}
use Rattle.rules.specs.declared.naming.Stem.TheVariants.{Dec, ComputedKey, Value, V, Get, Set, Call}
use Rattle.rules.specs.declared.naming.Name.{Name}
use Rattle.rules.specs.declared.treating.Treatment.{Treatment}
use Rattle.rules.specs.declared.treating.Treatment.TheVariants.{Untouched, Stored, DecoratedField, DecoratedAccessor, DecoratedElement}
use Rattle.rules.specs.declared.treating.Starters.{Starters}
use Rattle.rules.specs.declared.describing.Assignment.{Assignment}
use Rattle.rules.specs.declared.describing.Decoration.{Decoration}
use Rattle.rules.specs.declared.describing.Decoration.TheVariants.{Written, Assigned}
use Rattle.rules.specs.declared.describing.Decorators.{Decorators}
use Rattle.rules.specs.declared.describing.Decorators.TheVariants as several
use Rattle.rules.specs.declared.forming.Initializer.{Initializer}
use Rattle.rules.specs.declared.forming.StorageStem.{StorageStem}
use Rattle.rules.specs.declared.forming.StorageStem.TheVariants.{Private, Public, ComputedKey as ReplacedKey}
use Rattle.rules.specs.declared.forming.Storage.{Storage}
use Rattle.rules.specs.declared.forming.Access.{Access}
use Rattle.rules.specs.declared.forming.MadeForm.{MadeForm}
use Rattle.rules.specs.declared.forming.MadeForm.TheVariants as forms
use Rattle.rules.specs.declared.forming.Made.{Made}
use Rattle.rules.specs.Members.{treatment, is_non_field, accessor, taken, taken_out, replaced, text_of}
use Rattle.rules.specs.Draws.{named, field_init, accessor_init, starter_stem, due, starters_after, expressions, first_stems, second_stems, third_stems}

-- the decorators of a member as its descriptor has them, with a list where the code has an array
pub data Applied : Type 0 where
  nothing : Applied
  bare : Decoration → Applied
  array : Decoration → List Decoration → Applied

abbrev pub applied : Option Decorators → Applied
applied None = nothing
applied (Some (several.Bare d)) = bare d
applied (Some (several.Array d rest)) = array d (listed rest)

-- One decorator stands bare, two or more in an array, in written order.
abbrev pub merged : List Decoration → Applied
merged [] = nothing
merged (d ∷ []) = bare d
merged (d ∷ e ∷ rest) = array d (e ∷ rest)

-- a member with what is made of it
pub record Item : Type 0 where
  pub member : Seen
  pub key : Option Name
  pub decorators : Applied
  pub form : MadeForm
  pub starter : Option Name

abbrev pub item_of : Made → Item
item_of x = record {
  member = seen_member x.held.member;
  key = x.held.key;
  decorators = applied x.decorators;
  form = x.form;
  starter = x.starter;
}

abbrev pub some_if : {X : Type 0} → Bool → X → Option X
some_if b x = cond b (Some x) None

-- Walk 1, with the names from k on. Decorators that are taken out get a name each.
abbrev pub decorations : Bool → List Decorator → List ℕ → ℕ → List Decoration
decorations walked [] marks k = []
decorations walked (d ∷ ds) marks k =
    cond (taken_out walked d) (Assigned (named Dec marks k) ∷ decorations walked ds marks (k + 1))
    (Written d.text ∷ decorations walked ds marks k)

abbrev pub decorator_assignments : Bool → List Decorator → List ℕ → ℕ → List Assignment
decorator_assignments walked [] marks k = []
decorator_assignments walked (d ∷ ds) marks k =
    cond (taken_out walked d) (record { name = named Dec marks k; text = d.text } ∷ decorator_assignments walked ds marks (k + 1))
    (decorator_assignments walked ds marks k)

-- the name of a key that is taken out comes after those of the decorators
abbrev pub key_name : List ℕ → ℕ → Seen → Name
key_name marks k m = named ComputedKey marks (k + expressions m)

-- the computed identifier that replaces the key, if it is taken out
abbrev pub hand_key : List ℕ → ℕ → Seen → Option Name
hand_key marks k m = some_if (replaced m) (key_name marks k m)

abbrev pub key_assignments : List ℕ → ℕ → Seen → List Assignment
key_assignments marks k m = cond (replaced m) (record { name = key_name marks k m; text = m.key.text } ∷ []) []

abbrev pub member_assignments : List ℕ → ℕ → Seen → List Assignment
member_assignments marks k m = decorator_assignments (taken m) m.decorators marks k ++ key_assignments marks k m

abbrev pub first_item : List ℕ → ℕ → Seen → Item
first_item marks k m = record {
  member = m;
  key = hand_key marks k m;
  decorators = merged (decorations (taken m) m.decorators marks k);
  form = forms.AsWritten;
  starter = None;
}

abbrev pub first_walk : List ℕ → ℕ → List Seen → List Item
first_walk marks k [] = []
first_walk marks k (m ∷ ms) = first_item marks k m ∷ first_walk marks (k + length (first_stems m)) ms

abbrev pub assignments_from : List ℕ → ℕ → List Seen → List Assignment
assignments_from marks k [] = []
assignments_from marks k (m ∷ ms) = member_assignments marks k m ++ assignments_from marks (k + length (first_stems m)) ms

-- Walk 2. The storage of an accessor has a number, and no mark.
abbrev pub storage_stem : Seen → StorageStem
storage_stem m = cond m.flags.is_private (Private m.key.text) (cond (replaced m) ReplacedKey (Public m.key.text))

abbrev pub storage_of : ℕ → Seen → Storage
storage_of n m = record { stem = storage_stem m; number = n }

-- the call of an initializer with the member's value, if it has one
abbrev pub initializer : Name → Seen → Initializer
initializer name m = record { name = name; value = text_of m.body }

-- the names of the getter, the setter and its parameter, the first of which is at k
abbrev pub access : Bool → Seen → List ℕ → ℕ → Option Access
access private m marks k = some_if private (record {
  getting = named (Get m.key.text) marks k;
  setting = named (Set m.key.text) marks (k + 1);
  parameter = named V marks (k + 2);
})

-- where the name of the storage's setter's parameter is: after the initializer and, in the instance half, the starter
abbrev pub setter_at : Bool → Bool → ℕ → ℕ
setter_at static due k = k + cond (not static && due) 2 1

-- by what is done with the member, whether it is static, whether its half's starter is due, and whether the instance starter is
-- called already; n is the number of its storage
abbrev pub second_form : Treatment → Bool → Bool → Bool → ℕ → List ℕ → ℕ → Seen → MadeForm
second_form Untouched static due called n marks k m = forms.AsWritten
second_form Stored static due called n marks k m = forms.Stored (storage_of n m) (text_of m.body) (named V marks k)
second_form (DecoratedField private) static due called n marks k m = forms.AsWritten
second_form (DecoratedAccessor private) static due called n marks k m =
    forms.StoredDecorated (storage_of n m) (initializer (named (accessor_init m) marks k) m) (not static && not called)
    (named V marks (setter_at static due k)) (access private m marks (setter_at static due k + 1))
second_form (DecoratedElement private) static due called n marks k m =
    cond private (forms.Called (named (Call m.key.text) marks k)) forms.AsWritten

-- which of the names that a member draws is the starter
abbrev pub starter_at : Treatment → Bool → ℕ
starter_at Untouched static = 0
starter_at Stored static = 0
starter_at (DecoratedField private) static = 0
starter_at (DecoratedAccessor private) true = cond private 5 2
starter_at (DecoratedAccessor private) false = 1
starter_at (DecoratedElement private) static = cond private 1 0

abbrev pub second_starter : Treatment → Bool → Bool → List ℕ → ℕ → Option Name
second_starter t static due marks k = some_if (is_non_field t && due) (named (starter_stem static) marks (k + starter_at t static))

-- each accessor raises the number, which is then that of its storage
abbrev pub number_after : Seen → ℕ → ℕ
number_after m n = cond (accessor m) (n + 1) n

abbrev pub second_item : Starters → ℕ → List ℕ → ℕ → Item → Item
second_item s n marks k i =
    let m = i.member in
    record {
      member = m;
      key = i.key;
      decorators = i.decorators;
      form = second_form (treatment m) m.flags.is_static (due s m) s.called (number_after m n) marks k m;
      starter = second_starter (treatment m) m.flags.is_static (due s m) marks k;
    }

abbrev pub second_walk : Starters → ℕ → List ℕ → ℕ → List Item → List Item
second_walk s n marks k [] = []
second_walk s n marks k (i ∷ is) =
    second_item s n marks k i
    ∷ second_walk (starters_after s i.member) (number_after i.member n) marks (k + length (second_stems s i.member)) is

-- Walk 3: fields. What walk 2 has made stays.
abbrev pub third_form : Treatment → List ℕ → ℕ → Seen → MadeForm → MadeForm
third_form Untouched marks k m form = form
third_form Stored marks k m form = form
third_form (DecoratedField private) marks k m form =
    forms.Initialized (initializer (named (field_init m) marks k) m) (some_if private (named Value marks (k + 1)))
third_form (DecoratedAccessor private) marks k m form = form
third_form (DecoratedElement private) marks k m form = form

abbrev pub third_item : List ℕ → ℕ → Item → Item
third_item marks k i = record {
  member = i.member;
  key = i.key;
  decorators = i.decorators;
  form = third_form (treatment i.member) marks k i.member i.form;
  starter = i.starter;
}

abbrev pub third_walk : List ℕ → ℕ → List Item → List Item
third_walk marks k [] = []
third_walk marks k (i ∷ is) = third_item marks k i ∷ third_walk marks (k + length (third_stems i.member)) is
