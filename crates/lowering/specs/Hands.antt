-- The members in hand.
use Rattle.std.specs.Prelude.{Bool, true, false, ◌&&◌, List, [], ◌∷◌, map, Some, None, Option}
use Rattle.sheet.specs.Seen.{Seen}
use Rattle.sheet.specs.Members.{seen_member}
use Rattle.sheet.specs.declared.member.Member.{Member}
use Rattle.rules.specs.declared.naming.Name.{Name}
use Rattle.rules.specs.declared.forming.Held.{Held}

abbrev pub seen_held : Held → Seen
seen_held h = seen_member h.member

abbrev pub members_in : List Held → List Member
members_in hs = map (λ h. h.member) hs

abbrev pub seen_hand : List Held → List Seen
seen_hand hs = map seen_member (members_in hs)

-- whether the key is as the member has it
abbrev pub is_written : Option Name → Bool
is_written None = true
is_written (Some _) = false

-- no key is replaced
abbrev pub all_written : List Held → Bool
all_written [] = true
all_written (h ∷ hs) = is_written h.key && all_written hs
