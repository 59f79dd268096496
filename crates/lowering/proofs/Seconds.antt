-- The names of a decorated accessor.
use Rattle.std.proofs.Common.{◌≡◌, ℕ, ◌+◌, Bool, true, false, not, ◌&&◌, List, [], ◌∷◌, Option, refl, ap, ◌∙◌}
use Rattle.std.proofs.lemmas.Grind.{get_or_after_one}
use Rattle.std.specs.Option.{option_or}
use Rattle.sheet.specs.Seen.{Seen}
use Rattle.rules.specs.declared.naming.Name.{Name}
use Rattle.rules.specs.declared.naming.Stem.TheVariants.{V, InstanceStarter, StaticStarter}
use Rattle.rules.specs.declared.forming.Access.{Access}
use Rattle.rules.specs.declared.forming.Initializer.{Initializer}
use Rattle.rules.specs.declared.forming.Storage.{Storage}
use Rattle.rules.specs.declared.forming.MadeForm.TheVariants.{StoredDecorated}
use Rattle.rules.specs.declared.treating.Treatment.TheVariants.{DecoratedAccessor}
use Rattle.rules.specs.Members.{same_half}
use Rattle.rules.specs.Draws.{named, accessor_init, if_so, due, access_stems, second_stems_of}
use Rattle.rules.specs.Walks.{some_if, storage_of, initializer, access, setter_at, second_starter}
use Rattle.lowering.specs.declared.making.Reached.{Reached}
use Rattle.lowering.specs.declared.making.Second.{Second}
use Rattle.lowering.specs.Left.{after}
use Rattle.lowering.specs.Seconds.{is_drawn, second_as, stems_as}

-- The same at each case: what is left behind the instance starter, if it is drawn, and behind the setter's parameter.
module _ (static due : Bool) (marks : List ℕ) where
  abbrev behind_starter : List ℕ
  behind_starter = after (if_so (same_half false static && due) (InstanceStarter ∷ [])) (after (V ∷ []) marks)

  abbrev behind_parameter : List ℕ
  behind_parameter = after (V ∷ []) behind_starter

left_by : (private static due : Bool) (m : Seen) (marks : List ℕ) →
    after (if_so (same_half true static && due) (StaticStarter ∷ [])) (after (access_stems private m) (behind_parameter static due marks))
    ≡ after (second_stems_of (DecoratedAccessor private) static due m) marks
left_by true true true m marks = refl
left_by true true false m marks = refl
left_by true false true m marks = refl
left_by true false false m marks = refl
left_by false true true m marks = refl
left_by false true false m marks = refl
left_by false false true m marks = refl
left_by false false false m marks = refl

parameter_by : (static due : Bool) (marks : List ℕ) → named V (behind_starter static due marks) 0 ≡ named V marks (setter_at static due 0)
parameter_by true due marks = simp get_or_after_one
parameter_by false true marks = simp get_or_after_one
parameter_by false false marks = simp get_or_after_one

access_by : (private static due : Bool) (m : Seen) (marks : List ℕ) →
    access private m (behind_parameter static due marks) 0 ≡ access private m marks (setter_at static due 0 + 1)
access_by true true due m marks = simp get_or_after_one
access_by true false true m marks = simp get_or_after_one
access_by true false false m marks = simp get_or_after_one
access_by false static due m marks = refl

starter_by : (private static due : Bool) (m : Seen) (marks : List ℕ) →
    option_or (some_if (same_half false static && due) (named InstanceStarter (after (V ∷ []) marks) 0))
    (some_if (same_half true static && due) (named StaticStarter (after (access_stems private m) (behind_parameter static due marks)) 0))
    ≡ second_starter (DecoratedAccessor private) static due marks 0
starter_by true true true m marks = simp get_or_after_one
starter_by false true true m marks = simp get_or_after_one
starter_by private true false m marks = refl
starter_by private false true m marks = simp get_or_after_one
starter_by private false false m marks = refl

-- what each drawing leaves: of the initializer's name, the instance starter, the parameter, the names of the access, the static starter
pub record Drawn (private : Bool) (r : Reached) (m : Seen) (marks one two three four five : List ℕ) : Type 0 where
  pub init : one ≡ after (V ∷ []) marks
  pub early : two ≡ after (if_so (is_drawn false r.starters m) (InstanceStarter ∷ [])) one
  pub parameter : three ≡ after (V ∷ []) two
  pub access : four ≡ after (access_stems private m) three
  pub late : five ≡ after (if_so (is_drawn true r.starters m) (StaticStarter ∷ [])) four

module _ {private : Bool} {r : Reached} {m : Seen} {marks one two three four five : List ℕ}
    (d : Drawn private r m marks one two three four five) where
  abbrev static : Bool
  static = m.flags.is_static

  abbrev is_due : Bool
  is_due = due r.starters m

  two_is : two ≡ behind_starter static is_due marks
  two_is = d.early ∙ ap (after (if_so (is_drawn false r.starters m) (InstanceStarter ∷ []))) d.init

  three_is : three ≡ behind_parameter static is_due marks
  three_is = d.parameter ∙ ap (after (V ∷ [])) two_is

  four_is : four ≡ after (access_stems private m) (behind_parameter static is_due marks)
  four_is = d.access ∙ ap (after (access_stems private m)) three_is

  pub accessor_left : five ≡ after (stems_as (DecoratedAccessor private) r.starters m) marks
  accessor_left =
      d.late ∙ (ap (after (if_so (is_drawn true r.starters m) (StaticStarter ∷ []))) four_is ∙ left_by private static is_due m marks)

  pub accessor_second : (storage : Storage) (init : Initializer) (starts : Bool) (parameter : Name) (reach : Option Access)
      (early late starter : Option Name) →
      storage ≡ storage_of r.number m → init ≡ initializer (named (accessor_init m) marks 0) m →
      starts ≡ not m.flags.is_static && not r.starters.called → parameter ≡ named V two 0 → reach ≡ access private m three 0 →
      early ≡ some_if (is_drawn false r.starters m) (named InstanceStarter one 0) →
      late ≡ some_if (is_drawn true r.starters m) (named StaticStarter four 0) → starter ≡ option_or early late →
      ◌≡◌ {A = Second} (record { form = StoredDecorated storage init starts parameter reach; starter = starter })
      (second_as (DecoratedAccessor private) r marks m)
  accessor_second storage init starts parameter reach early late starter a b e f g h i j =
      let first = d.init in
      let two = two_is in
      let three = three_is in
      let four = four_is in
      let p = parameter_by static is_due marks in
      let q = access_by private static is_due m marks in
      let s = starter_by private static is_due m marks in
      cc
