-- Worked examples of the lowering.
use Rattle.std.specs.Prelude.{◌≡◌, ℕ, Bool, true, false, List, [], ◌∷◌, map, length, Some, None, Ok, Err}
use Rattle.refusals.specs.declared.Layer.TheVariants as layers
use Rattle.formats.specs.declared.Place.{Place}
use Rattle.pieces.specs.declared.codes.Kind.TheVariants as kinds
use Rattle.pieces.specs.declared.codes.KeyKind.TheVariants as keyKinds
use Rattle.sheet.specs.Seen.{Seen}
use Rattle.marks.specs.Counters.{from}
use Rattle.rules.specs.declared.naming.Stem.{Stem}
use Rattle.rules.specs.declared.naming.Stem.TheVariants.{Dec, ComputedKey, Init, InitFieldKey, V, Get, Set, Call, InstanceStarter, StaticStarter, Args}
use Rattle.rules.specs.declared.naming.Name.{Name}
use Rattle.rules.specs.declared.describing.Decoration.TheVariants.{Written, Assigned}
use Rattle.rules.specs.declared.describing.DescriptorKey.TheVariants as descriptorKeys
use Rattle.rules.specs.declared.describing.PrivateField.TheVariants as fields
use Rattle.rules.specs.declared.forming.StorageStem.TheVariants.{Private, Public}
use Rattle.rules.specs.declared.forming.MadeForm.TheVariants.{AsWritten, Initialized, Stored, StoredDecorated, Called}
use Rattle.rules.specs.declared.forming.Constructor.TheVariants as constructors
use Rattle.rules.specs.Draws.{draws}
use Rattle.rules.specs.Walks.{bare, array}
use Rattle.rules.specs.Records.{nothing, function, reaches}
use Rattle.rules.specs.Refused.{first_out_of_order, first_unnumbered}
use Rattle.lowering.specs.declared.faults.LowerFault.TheVariants.{Marks}
use Rattle.lowering.specs.Refusals.{lower_refusal}
use Rattle.lowering.specs.Supplies.{supplied}
use Rattle.lowering.specs.Samples.{identifier, expression, plain, field, accessor, method, getter, builder, static, private, decorated, holding, ◌$◌, storage, call, assign, on_instance, on_class, code_numbers, descriptor, drawing, refused, lowered_from_one, forms, refusal}

-- What a table of examples tells of a class: the stems of the names that it draws, the codes of its descriptors, and its names in the
-- order of the results.
pub record Row : Type 0 where
  pub draws : List Stem
  pub codes : List ℕ
  pub names : List Name

-- the row of a class, derived or not
abbrev pub row : Bool → List Seen → Row
row derived ms = record {
  draws = map (λ x. x.stem) (draws derived ms);
  codes = code_numbers (lowered_from_one derived ms).descriptors;
  names = (lowered_from_one derived ms).names;
}

-- Here d and f1 are the texts of two decorators, `d` and `f(1)`, and the others those of keys.
module _ (d f1 a b c f g m x : Place) where
  -- the public method `@d m() { }`
  abbrev pub method_m : Seen
  method_m = decorated (identifier d ∷ []) (method m)

  -- the private accessor `@d accessor #x;`
  abbrev pub accessor_x : Seen
  accessor_x = decorated (identifier d ∷ []) (private (accessor x))

  -- `@d f;`, `@d static m() { }` and `@d get #g() { }`
  abbrev pub mixed : List Seen
  mixed =
      decorated (identifier d ∷ []) (field f)
      ∷ decorated (identifier d ∷ []) (static (method m))
      ∷ decorated (identifier d ∷ []) (private (getter g))
      ∷ []

  -- `@d @f(1) m() { }`
  abbrev pub method_twice : Seen
  method_twice = decorated (identifier d ∷ expression f1 ∷ []) (method m)

  -- `constructor() { }`, `a;` and `constructor() { }`
  abbrev pub built_twice : List Seen
  built_twice = builder ∷ field a ∷ builder ∷ []

  -- `a;`, `accessor b;` and `accessor c;`
  abbrev pub two_accessors : List Seen
  two_accessors = field a ∷ accessor b ∷ accessor c ∷ []

  -- The short examples.
  pub record Short : Type 0 where
    -- A class without members draws nothing, and has no descriptor and so no static block.
    pub empty_draws : draws false [] ≡ []
    pub empty_descriptors : (lowered_from_one false []).descriptors ≡ []
    pub empty_block : (lowered_from_one false []).frame.block ≡ false
    -- A public method draws its half's starter, which a new constructor ahead of it calls, in a derived class with arguments.
    pub public_method : row false (method_m ∷ []) ≡ record {
      draws = InstanceStarter ∷ [];
      codes = 2 ∷ [];
      names = InstanceStarter $ 1 ∷ [];
    }
    pub public_method_built : (lowered_from_one false (method_m ∷ [])).frame.constructor ≡ constructors.New 0 None
    pub derived_method : row true (method_m ∷ []) ≡ record {
      draws = InstanceStarter ∷ Args ∷ [];
      codes = 2 ∷ [];
      names = InstanceStarter $ 1 ∷ [];
    }
    pub derived_method_built : (lowered_from_one true (method_m ∷ [])).frame.constructor ≡ constructors.New 0 (Some (Args $ 2))
    -- A private accessor draws six names, and has storage.
    pub private_accessor : row false (accessor_x ∷ []) ≡ record {
      draws = Init x ∷ InstanceStarter ∷ V ∷ Get x ∷ Set x ∷ V ∷ [];
      codes = 1 ∷ [];
      names = Init x $ 1 ∷ Get x $ 4 ∷ Set x $ 5 ∷ InstanceStarter $ 2 ∷ [];
    }
    pub private_accessor_needs : length (draws false (accessor_x ∷ [])) ≡ 6
    pub private_accessor_form :
        forms (lowered_from_one false (accessor_x ∷ []))
        ≡ StoredDecorated (storage (Private x) 1) (call (Init x $ 1) None) true (V $ 3)
        (Some (record { getting = Get x $ 4; setting = Set x $ 5; parameter = V $ 6 }))
        ∷ []
    -- The field was written first, and its descriptor comes last.
    pub mixed_halves : row false mixed ≡ record {
      draws = StaticStarter ∷ Call g ∷ InstanceStarter ∷ Init f ∷ [];
      codes = 7 ∷ 3 ∷ 0 ∷ [];
      names = Call g $ 2 ∷ Init f $ 4 ∷ InstanceStarter $ 3 ∷ StaticStarter $ 1 ∷ [];
    }
    pub mixed_built : (lowered_from_one false mixed).frame.constructor ≡ constructors.New 0 None
    -- Two decorators become an array, in which a name stands for the one that is taken out.
    pub two_decorators :
        (lowered_from_one false (method_twice ∷ [])).descriptors
        ≡ descriptor (array (Written d) (Assigned (Dec $ 1) ∷ [])) (on_instance kinds.Method) (descriptorKeys.Quoted m) nothing ∷ []
    pub two_decorators_code : code_numbers (lowered_from_one false (method_twice ∷ [])).descriptors ≡ 2 ∷ []
    pub two_decorators_assigned : (lowered_from_one false (method_twice ∷ [])).assignments ≡ assign (Dec $ 1) f1 ∷ []
    -- Of the six marks that the accessor needs a counter from 65,531 has five.
    pub few_marks : supplied false 0 (from 65531) (accessor_x ∷ []) ≡ Err (Marks (record { drawn = 5 }))
    pub few_marks_told : lower_refusal (Marks (record { drawn = 5 })) ≡ refused 21 layers.Marks 5
    pub enough_marks : supplied false 0 (from 65530) (accessor_x ∷ []) ≡ Ok tt
    -- A second constructor with a body is out of order, and so is one without a super call in a derived class.
    pub second_builder : first_out_of_order false false 0 built_twice ≡ Some 2
    pub second_builder_told : refusal (supplied false 0 (from 1) built_twice) ≡ Some (refused 8 layers.Members 2)
    pub no_super_call : first_out_of_order true false 0 (builder ∷ []) ≡ Some 0
    pub no_super_call_told : refusal (supplied true 0 (from 1) (builder ∷ [])) ≡ Some (refused 8 layers.Members 0)
    -- After 65,534 there is a storage number for one accessor, and none for another.
    pub unnumbered : first_unnumbered 65534 0 two_accessors ≡ Some 2
    pub unnumbered_told : refusal (supplied false 65534 (from 1) two_accessors) ≡ Some (refused 13 layers.Members 2)

-- Here d and f1 are the texts of decorators, step to unit those of keys, and the others those of values and bodies.
module _ (d f1 step of paid due ab unit returnNew zero returnTwo three four : Place) where
  -- the class
  --     @d step;
  --     @d static of() { return new this(); }
  --     @d @f(1) accessor #paid = 0;
  --     @d get #due() { return 2; }
  --     @d static "a b" = 3;
  --     accessor unit = 4;
  abbrev pub rate : List Seen
  rate =
      decorated (identifier d ∷ []) (field step)
      ∷ decorated (identifier d ∷ []) (static (holding returnNew (method of)))
      ∷ decorated (identifier d ∷ expression f1 ∷ []) (private (holding zero (accessor paid)))
      ∷ decorated (identifier d ∷ []) (private (holding returnTwo (getter due)))
      ∷ decorated (identifier d ∷ []) (static (holding three (plain kinds.Field keyKinds.Literal ab None)))
      ∷ holding four (accessor unit)
      ∷ []

  -- The worked class, part by part.
  pub record Worked : Type 0 where
    -- thirteen names, each with the number of the member that draws it
    pub drawn :
        draws false rate
        ≡ drawing 2 Dec
        ∷ drawing 4 ComputedKey
        ∷ drawing 1 StaticStarter
        ∷ drawing 2 (Init paid)
        ∷ drawing 2 InstanceStarter
        ∷ drawing 2 V
        ∷ drawing 2 (Get paid)
        ∷ drawing 2 (Set paid)
        ∷ drawing 2 V
        ∷ drawing 3 (Call due)
        ∷ drawing 5 V
        ∷ drawing 0 (Init step)
        ∷ drawing 4 InitFieldKey
        ∷ []
    -- a decorator and a key are taken out
    pub assignments : (lowered_from_one false rate).assignments ≡ assign (Dec $ 1) f1 ∷ assign (ComputedKey $ 2) ab ∷ []
    -- the key of member 4 is replaced
    pub keys_in_hand :
        map (λ i. i.key) (lowered_from_one false rate).members
        ≡ None ∷ None ∷ None ∷ None ∷ Some (ComputedKey $ 2) ∷ None ∷ []
    -- the accessors have the storages `#__paid_1` and `#___private_unit_2`
    pub made :
        forms (lowered_from_one false rate)
        ≡ Initialized (call (Init step $ 12) None) None
        ∷ AsWritten
        ∷ StoredDecorated (storage (Private paid) 1) (call (Init paid $ 4) (Some zero)) true (V $ 6)
        (Some (record { getting = Get paid $ 7; setting = Set paid $ 8; parameter = V $ 9 }))
        ∷ Called (Call due $ 10)
        ∷ Initialized (call (InitFieldKey $ 13) (Some three)) None
        ∷ Stored (storage (Public unit) 2) (Some four) (V $ 11)
        ∷ []
    pub codes : code_numbers (lowered_from_one false rate).descriptors ≡ 7 ∷ 5 ∷ 1 ∷ 3 ∷ 0 ∷ []
    pub descriptors :
        (lowered_from_one false rate).descriptors
        ≡ descriptor (bare (Written d)) (on_class kinds.Method) (descriptorKeys.Quoted of) nothing
        ∷ descriptor (bare (Written d)) (on_class kinds.Field) (descriptorKeys.Assigned (ComputedKey $ 2)) nothing
        ∷ descriptor (array (Written d) (Assigned (Dec $ 1) ∷ [])) (on_instance kinds.Accessor) (descriptorKeys.Quoted paid)
        (reaches (fields.Stored (storage (Private paid) 1)) (V $ 6))
        ∷ descriptor (bare (Written d)) (on_instance kinds.Getter) (descriptorKeys.Quoted due)
        (function (record { async = false; generator = false; parameters = []; text = Some returnTwo }))
        ∷ descriptor (bare (Written d)) (on_instance kinds.Field) (descriptorKeys.Quoted step) nothing
        ∷ []
    -- in the order of the results
    pub names :
        (lowered_from_one false rate).names
        ≡ InitFieldKey $ 13
        ∷ Init paid $ 4
        ∷ Get paid $ 7
        ∷ Set paid $ 8
        ∷ Call due $ 10
        ∷ Init step $ 12
        ∷ InstanceStarter $ 5
        ∷ StaticStarter $ 3
        ∷ []
    -- in the order of drawing, and then the starters
    pub variables :
        (lowered_from_one false rate).variables
        ≡ Dec $ 1
        ∷ ComputedKey $ 2
        ∷ Init paid $ 4
        ∷ Get paid $ 7
        ∷ Set paid $ 8
        ∷ Call due $ 10
        ∷ Init step $ 12
        ∷ InitFieldKey $ 13
        ∷ InstanceStarter $ 5
        ∷ StaticStarter $ 3
        ∷ []
    -- there is a static block, and no constructor is made, since the accessor's value calls the instance starter
    pub frame : (lowered_from_one false rate).frame ≡ record {
      instance_starter = Some (InstanceStarter $ 5);
      static_starter = Some (StaticStarter $ 3);
      block = true;
      constructor = constructors.AsWritten;
    }

-- The examples hold whatever the texts are.
abbrev pub ExamplesStand : Type 0
ExamplesStand =
    ((d f1 a b c f g m x : Place) → Short d f1 a b c f g m x)
    × ((d f1 step of paid due ab unit returnNew zero returnTwo three four : Place) →
    Worked d f1 step of paid due ab unit returnNew zero returnTwo three four)
