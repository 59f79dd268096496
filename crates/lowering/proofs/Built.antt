-- Where the instance starter is called in a constructor.
use Rattle.std.proofs.Common.{◌≡◌, ℕ, ◌+◌, Bool, true, false, cond, ◌&&◌, List, ◌∷◌, is_some, Option, sym, refl, ap}
use Rattle.sheet.specs.Seen.{Seen}
use Rattle.rules.specs.declared.naming.Name.{Name}
use Rattle.rules.specs.declared.forming.Constructor.{Constructor}
use Rattle.rules.specs.declared.forming.Constructor.TheVariants.{Old}
use Rattle.rules.specs.Members.{of_constructor, built}
use Rattle.rules.specs.Records.{constructor_from}

both : (k b : Bool) (old new other : Constructor) → k && b ≡ true → cond k (cond b old new) other ≡ old
both true true old new other h = refl
both true false old new other h = cc
both false b old new other h = cc

pub call_built : (i : ℕ) (m : Seen) (ms : List Seen) (args : Option Name) (p : ℕ) → built m ≡ true →
    constructor_from i (m ∷ ms) args p ≡ Old i
call_built i m ms args p h = both (of_constructor m.kind) (is_some m.body) (Old i) _ _ h

next : (k b : Bool) (old : Constructor) (go : ℕ → Constructor) (p q r : ℕ) → k && b ≡ false → r ≡ cond k q p →
    cond k (cond b old (go q)) (go p) ≡ go r
next true true old go p q r h e = cc
next true false old go p q r h e = ap go (sym e)
next false b old go p q r h e = ap go (sym e)

pub call_later : (i : ℕ) (m : Seen) (ms : List Seen) (args : Option Name) (p r : ℕ) → built m ≡ false →
    r ≡ cond (of_constructor m.kind) (i + 1) p →
    constructor_from i (m ∷ ms) args p ≡ constructor_from (i + 1) ms args r
call_later i m ms args p r h e = next (of_constructor m.kind) (is_some m.body) (Old i) (constructor_from (i + 1) ms args) p (i + 1) r h e
