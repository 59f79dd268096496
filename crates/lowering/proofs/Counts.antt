-- How many names a class draws.
use Rattle.std.proofs.Common.{◌≡◌, ℕ, suc, ◌+◌, ◌≤◌, Bool, true, false, cond, not, ◌&&◌, ◌||◌, List, [], ◌∷◌, ◌++◌, length, sym, refl, ap, ◌∙◌, arith}
use Rattle.std.proofs.lemmas.List.{length-append, length-map}
use Rattle.sheet.specs.Seen.{Seen}
use Rattle.rules.specs.declared.naming.Stem.{Stem}
use Rattle.rules.specs.declared.naming.Stem.TheVariants.{Args, ComputedKey}
use Rattle.rules.specs.declared.treating.Starters.{Starters}
use Rattle.rules.specs.Members.{any_of, starts, holds_call, built, replaced}
use Rattle.rules.specs.Draws.{Drawing, starters_after, expressions, first_stems, second_stems, third_stems, if_so, drawings, for_each, for_second_walk, draws_args, draws, no_starters, args_at, constructor_calls}
use Rattle.lowering.specs.declared.draws.Tally.{Tally}
use Rattle.lowering.specs.Tallies.{starters_over, tally_after, tallied, total_of}

abbrev pub started : Tally
started = record { names = 0; starters = no_starters; built = false }

drawn_more : (w : ℕ) (stems : List Stem) (rest : List Drawing) → length (drawings w stems ++ rest) ≡ length stems + length rest
drawn_more w stems rest = simp (length-append, length-map)

counted_names : (t : Tally) (w : ℕ) (ms : List Seen) →
    (tallied t ms).names
    ≡ t.names + length (for_each first_stems w ms) + length (for_second_walk t.starters w ms) + length (for_each third_stems w ms)
counted_names t w [] = omega arith
counted_names t w (m ∷ ms) =
    let s = t.starters in
    omega (
      arith,
      counted_names (tally_after t m) (suc w) ms,
      drawn_more w (first_stems m) (for_each first_stems (suc w) ms),
      drawn_more w (second_stems s m) (for_second_walk (starters_after s m) (suc w) ms),
      drawn_more w (third_stems m) (for_each third_stems (suc w) ms),
    )

or_false : (b : Bool) → b || false ≡ b
or_false true = refl
or_false false = refl

or_assoc : (a b c : Bool) → (a || b) || c ≡ a || (b || c)
or_assoc true b c = refl
or_assoc false b c = refl

or_swap : (a b c : Bool) → (a || b) || c ≡ b || (a || c)
or_swap true true c = refl
or_swap true false c = refl
or_swap false b c = refl

instance_over : (s : Starters) (ms : List Seen) → (starters_over s ms).instance ≡ s.instance || any_of (starts false) ms
instance_over s [] = sym (or_false s.instance)
instance_over s (m ∷ ms) = instance_over (starters_after s m) ms ∙ or_assoc s.instance (starts false m) (any_of (starts false) ms)

called_over : (s : Starters) (ms : List Seen) → (starters_over s ms).called ≡ s.called || any_of holds_call ms
called_over s [] = sym (or_false s.called)
called_over s (m ∷ ms) = called_over (starters_after s m) ms ∙ or_assoc s.called (holds_call m) (any_of holds_call ms)

pub calls_over : (ms : List Seen) →
    (starters_over no_starters ms).instance && not (starters_over no_starters ms).called ≡ constructor_calls ms
calls_over ms = rw (instance_over no_starters ms, called_over no_starters ms)

counted_starters : (t : Tally) (ms : List Seen) → (tallied t ms).starters ≡ starters_over t.starters ms
counted_starters t [] = refl
counted_starters t (m ∷ ms) = counted_starters (tally_after t m) ms

counted_instance : (t : Tally) (ms : List Seen) → (tallied t ms).starters.instance ≡ t.starters.instance || any_of (starts false) ms
counted_instance t ms = ap (λ s. s.instance) (counted_starters t ms) ∙ instance_over t.starters ms

counted_called : (t : Tally) (ms : List Seen) → (tallied t ms).starters.called ≡ t.starters.called || any_of holds_call ms
counted_called t ms = ap (λ s. s.called) (counted_starters t ms) ∙ called_over t.starters ms

counted_built : (t : Tally) (ms : List Seen) → (tallied t ms).built ≡ t.built || any_of built ms
counted_built t [] = sym (or_false t.built)
counted_built t (m ∷ ms) = counted_built (tally_after t m) ms ∙ or_assoc t.built (built m) (any_of built ms)

length_if : (b : Bool) (x : Stem) → length (if_so b (x ∷ [])) ≡ cond b 1 0
length_if true x = refl
length_if false x = refl

-- walk 1 draws a name for each decorator that is taken out, and one for the key
pub first_length : (m : Seen) → length (first_stems m) ≡ expressions m + cond (replaced m) 1 0
first_length m = simp (length-append, length-map) (ap (λ n. expressions m + n) (length_if (replaced m) ComputedKey))

length_one : (b : Bool) (n : ℕ) (x : Stem) (w : ℕ) → n + length (drawings w (if_so b (x ∷ []))) ≡ cond b (n + 1) n
length_one true n x w = refl
length_one false n x w = omega arith

draws_length : (derived : Bool) (ms : List Seen) → length (draws derived ms) ≡ cond (draws_args derived ms) (args_at ms + 1) (args_at ms)
draws_length derived ms =
    let last = length_one (draws_args derived ms) (args_at ms) Args (length ms) in
    simp length-append (omega (arith, last))

pub total_drawn : (derived : Bool) (ms : List Seen) → total_of (tallied started ms) derived ≡ length (draws derived ms)
total_drawn derived ms =
    let same : (tallied started ms).names ≡ args_at ms = omega (arith, counted_names started 0 ms) in
    rw (draws_length, counted_starters started ms, calls_over ms, counted_built started ms)
    (ap (λ n. cond (draws_args derived ms) (n + 1) n) same)

cond_few : (b : Bool) (n : ℕ) → cond b (n + 1) n ≤ n + 1
cond_few true n = omega arith
cond_few false n = omega arith

pub total_few : (t : Tally) (derived : Bool) → total_of t derived ≤ t.names + 1
total_few t derived = cond_few (t.starters.instance && not t.starters.called && (not t.built && derived)) t.names
