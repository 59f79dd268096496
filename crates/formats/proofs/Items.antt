-- One more thing of several is read. Assumes nothing.
use Rattle.std.proofs.Common.{◌≡◌, ℕ, suc, ◌+◌, ◌-◌, ◌<◌, ◌≤◌, List, [], ◌∷◌, ◌++◌, map, Ok, Err, Result, sym, ap, ◌∙◌, arith}
use Rattle.std.proofs.lemmas.List.{map_push}
use Rattle.formats.specs.Readers.{then, items}

-- with some left, one is read and then the others
pub items_more : {X F : Type 0} (read : ℕ → Result (X × ℕ) F) (n i : ℕ) (done : List X) (at : ℕ) → i < n →
    items read (n - i) done at ≡ then (read at) (λ x. items read (n - (i + 1)) (done ++ x.0 ∷ []) x.1)
items_more read n i done at h =
    let e : n - i ≡ suc (n - (i + 1)) = omega arith in
    ap (λ k. items read k done at) e

-- the same, where what was read is held as something of which `view` tells
pub items_read : {X Z F : Type 0} (read : ℕ → Result (X × ℕ) F) (view : Z → X) (n i : ℕ) (have : List Z) (at : ℕ) (z : Z) (next : ℕ) → i < n →
    read at ≡ Ok (view z, next) → items read (n - i) (map view have) at ≡ items read (n - (i + 1)) (map view (have ++ z ∷ [])) next
items_read read view n i have at z next h is =
    items_more read n i (map view have) at h
    ∙ (ap (λ r. then r (λ x. items read (n - (i + 1)) (map view have ++ x.0 ∷ []) x.1)) is
    ∙ ap (λ l. items read (n - (i + 1)) l next) (sym (map_push view have z)))

-- a fault ends it
pub items_fault : {X F : Type 0} (read : ℕ → Result (X × ℕ) F) (n i : ℕ) (done : List X) (at : ℕ) (f : F) → i < n →
    read at ≡ Err f → items read (n - i) done at ≡ Err f
items_fault read n i done at f h is =
    items_more read n i done at h ∙ ap (λ r. then r (λ x. items read (n - (i + 1)) (done ++ x.0 ∷ []) x.1)) is

-- none is left
pub items_done : {X F : Type 0} (read : ℕ → Result (X × ℕ) F) (n i : ℕ) (done : List X) (at : ℕ) → n ≤ i →
    items read (n - i) done at ≡ Ok (done, at)
items_done read n i done at h =
    let e : n - i ≡ 0 = omega arith in
    ap (λ k. items read k done at) e
