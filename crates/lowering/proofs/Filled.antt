-- The record that the walks fill.
use Rattle.std.proofs.Common.{◌≡◌, Bool, true, false, ◌&&◌, List, [], ◌∷◌, ◌++◌, map, None, refl}
use Rattle.sheet.specs.declared.member.Member.{Member}
use Rattle.rules.specs.declared.forming.Held.{Held}
use Rattle.lowering.specs.Hands.{is_written, all_written}

-- a list of which nothing is made is empty
pub no_items : {X Y : Type 0} (f : X → Y) (xs : List X) → map f xs ≡ [] → xs ≡ []
no_items f [] none = refl
no_items f (x ∷ xs) none = cc

and_true : (a b d : Bool) → a && b ≡ true → (b ≡ true → d ≡ true) → a && d ≡ true
and_true true b d h f = f h
and_true false b d h f = h

-- one member more, with its key as it has it
pub written_push : (hs : List Held) (m : Member) → all_written hs ≡ true → all_written (hs ++ record { member = m; key = None } ∷ []) ≡ true
written_push [] m all = refl
written_push (h ∷ hs) m all =
    let more = hs ++ record { member = m; key = None } ∷ [] in
    and_true (is_written h.key) (all_written hs) (all_written more) all (λ rest. written_push hs m rest)
