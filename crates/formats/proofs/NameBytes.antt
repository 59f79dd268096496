-- The bytes of a name, one after another. Assumes nothing.
use Rattle.std.proofs.Common.{◌≡◌, ℕ, ◌+◌, ◌<◌, ◌&&◌, List, length, get_or, drop, ap}
use Rattle.std.proofs.lemmas.List.{drop_more}
use Rattle.formats.specs.Names.{in_name, all_in_name}

-- from here on all can stand in a name: this one, and those that follow
pub all_more : (bs : List ℕ) (i : ℕ) → i < length bs →
    all_in_name (drop i bs) ≡ (in_name (get_or bs i 0) && all_in_name (drop (i + 1) bs))
all_more bs i h = ap all_in_name (drop_more bs i 0 h)
