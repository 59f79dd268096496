-- Readers that are made of others.
use Rattle.std.specs.Prelude.{ℕ, zero, suc, List, [], ◌∷◌, ◌++◌, Ok, Err, Result}

-- goes on with what was read, or hands the fault on
abbrev pub then : {A B E : Type 0} → Result A E → (A → Result B E) → Result B E
then (Ok x) f = f x
then (Err e) f = Err e

-- `left` more things behind those that are read, each with where the next one begins
abbrev pub items : {X F : Type 0} → (ℕ → Result (X × ℕ) F) → ℕ → List X → ℕ → Result (List X × ℕ) F
items read zero done at = Ok (done, at)
items read (suc left) done at = then (read at) (λ x. items read left (done ++ x.0 ∷ []) x.1)

-- a fault, handed on as another
abbrev pub faulted : {A F G : Type 0} → (F → G) → Result A F → Result A G
faulted refusal (Ok x) = Ok x
faulted refusal (Err f) = Err (refusal f)
