-- Which names a class draws, in drawing order.
use Rattle.std.specs.Prelude.{ℕ, suc, ◌+◌, Bool, true, false, cond, not, ◌&&◌, ◌||◌, List, [], ◌∷◌, ◌++◌, map, length, filter, slice_index}
use Rattle.sheet.specs.Seen.{Seen}
use Rattle.rules.specs.declared.naming.Stem.{Stem}
use Rattle.rules.specs.declared.naming.Stem.TheVariants.{Dec, ComputedKey, Init, InitFieldKey, InitAccessorKey, Value, V, Get, Set, Call, InstanceStarter, StaticStarter, Args}
use Rattle.rules.specs.declared.naming.Name.{Name}
use Rattle.rules.specs.declared.treating.Treatment.{Treatment}
use Rattle.rules.specs.declared.treating.Treatment.TheVariants.{Untouched, Stored, DecoratedField, DecoratedAccessor, DecoratedElement}
use Rattle.rules.specs.declared.treating.Starters.{Starters}
use Rattle.rules.specs.Members.{any_of, treatment, starts, holds_call, built, taken, taken_out, replaced}

-- the name that has the mark drawn at k, counted from 0
abbrev pub named : Stem → List ℕ → ℕ → Name
named stem marks k = record { stem = stem; mark = slice_index marks k }

abbrev pub field_init : Seen → Stem
field_init m = cond (replaced m) InitFieldKey (Init m.key.text)

abbrev pub accessor_init : Seen → Stem
accessor_init m = cond (replaced m) InitAccessorKey (Init m.key.text)

abbrev pub starter_stem : Bool → Stem
starter_stem true = StaticStarter
starter_stem false = InstanceStarter

abbrev pub no_starters : Starters
no_starters = record { instance = false; statics = false; called = false }

abbrev pub drawn_in : Bool → Starters → Bool
drawn_in true s = s.statics
drawn_in false s = s.instance

-- the starter of m's half is not drawn yet: it is due, if m is a decorated non-field
abbrev pub due : Starters → Seen → Bool
due s m = not (drawn_in m.flags.is_static s)

abbrev pub starters_after : Starters → Seen → Starters
starters_after s m = record {
  instance = s.instance || starts false m;
  statics = s.statics || starts true m;
  called = s.called || holds_call m;
}

abbrev pub if_so : {X : Type 0} → Bool → List X → List X
if_so b xs = cond b xs []

-- how many decorators of a member are taken out
abbrev pub expressions : Seen → ℕ
expressions m = length (filter (taken_out (taken m)) m.decorators)

-- walk 1: the decorators, then the key
abbrev pub first_stems : Seen → List Stem
first_stems m = map (λ d. Dec) (filter (taken_out (taken m)) m.decorators) ++ if_so (replaced m) (ComputedKey ∷ [])

abbrev pub access_stems : Bool → Seen → List Stem
access_stems private m = if_so private (Get m.key.text ∷ Set m.key.text ∷ V ∷ [])

-- walk 2: non-fields, by what is done with the member, whether it is static, and whether its half's starter is due
abbrev pub second_stems_of : Treatment → Bool → Bool → Seen → List Stem
second_stems_of Untouched static due m = []
second_stems_of Stored static due m = V ∷ []
second_stems_of (DecoratedField private) static due m = []
second_stems_of (DecoratedAccessor private) true due m = accessor_init m ∷ V ∷ access_stems private m ++ if_so due (StaticStarter ∷ [])
second_stems_of (DecoratedAccessor private) false due m = accessor_init m ∷ if_so due (InstanceStarter ∷ []) ++ V ∷ access_stems private m
second_stems_of (DecoratedElement private) static due m = if_so private (Call m.key.text ∷ []) ++ if_so due (starter_stem static ∷ [])

abbrev pub second_stems : Starters → Seen → List Stem
second_stems s m = second_stems_of (treatment m) m.flags.is_static (due s m) m

-- walk 3: fields
abbrev pub third_stems_of : Treatment → Seen → List Stem
third_stems_of Untouched m = []
third_stems_of Stored m = []
third_stems_of (DecoratedField private) m = field_init m ∷ if_so private (Value ∷ [])
third_stems_of (DecoratedAccessor private) m = []
third_stems_of (DecoratedElement private) m = []

abbrev pub third_stems : Seen → List Stem
third_stems m = third_stems_of (treatment m) m

-- the instance starter is called in the constructor
abbrev pub constructor_calls : List Seen → Bool
constructor_calls ms = any_of (starts false) ms && not (any_of holds_call ms)

-- a new constructor with arguments
abbrev pub draws_args : Bool → List Seen → Bool
draws_args derived ms = constructor_calls ms && (not (any_of built ms) && derived)

-- whose name is drawn (a member's number, or for a new constructor's arguments the number past the last), and which
pub record Drawing : Type 0 where
  pub whose : ℕ
  pub stem : Stem

abbrev pub drawings : ℕ → List Stem → List Drawing
drawings w stems = map (λ s. record { whose = w; stem = s }) stems

abbrev pub for_each : (Seen → List Stem) → ℕ → List Seen → List Drawing
for_each f w [] = []
for_each f w (m ∷ ms) = drawings w (f m) ++ for_each f (suc w) ms

abbrev pub for_second_walk : Starters → ℕ → List Seen → List Drawing
for_second_walk s w [] = []
for_second_walk s w (m ∷ ms) = drawings w (second_stems s m) ++ for_second_walk (starters_after s m) (suc w) ms

-- what a class draws, in drawing order
abbrev pub draws : Bool → List Seen → List Drawing
draws derived ms =
    for_each first_stems 0 ms
    ++ (for_second_walk no_starters 0 ms ++ (for_each third_stems 0 ms ++ drawings (length ms) (if_so (draws_args derived ms) (Args ∷ []))))

-- where the names of walk 2, of walk 3 and of a new constructor begin
abbrev pub second_from : List Seen → ℕ
second_from ms = length (for_each first_stems 0 ms)

abbrev pub third_from : List Seen → ℕ
third_from ms = second_from ms + length (for_second_walk no_starters 0 ms)

abbrev pub args_at : List Seen → ℕ
args_at ms = third_from ms + length (for_each third_stems 0 ms)
