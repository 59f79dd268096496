-- A whole sheet and its layout. Assumes nothing.
use Rattle.std.proofs.Common.{◌≡◌, ℕ, ◌+◌, ◌≤◌, Bool, true, false, cond, not, eqb, ltb, leb, List, [], ◌∷◌, ◌++◌, length, take, Some, None, Ok, Err, Option, Result, sym, refl, ap, ◌∙◌, subst, arith}
use Rattle.std.specs.List.{flat_map}
use Rattle.std.proofs.lemmas.List.{append_assoc, take_all, length-take}
use Rattle.std.proofs.lemmas.Bool.{eq-eqb, eqb-true, le-leb, leb-true, le-ltb, ltb-false, and_parts}
use Rattle.formats.specs.declared.Place.{Place}
use Rattle.formats.specs.declared.ReadFault.TheVariants.{Version, Unknown, NoName, Spare}
use Rattle.formats.specs.Bytes.{text, Short}
use Rattle.formats.specs.Names.{is_name, is_digit, all_in_name}
use Rattle.formats.specs.Readers.{faulted}
use Rattle.formats.specs.Reading.{end, bytes_at}
use Rattle.formats.proofs.Formats.{Small, Reads, UpTo, Just, same_ok, was_ok, done, field, final, guard, attempt, closing, whole, said, layered, room_all}
use Rattle.formats.proofs.Laid.{Laid, laid_all, all_laid}
use Rattle.formats.proofs.Lists.{items_reads, block}
use Rattle.formats.proofs.Parts.{byte, text_reads, text_start}
use Rattle.pieces.specs.Fields.{fields_at}
use Rattle.pieces.proofs.Inside.{inside_more, fields_inside}
use Rattle.pieces.proofs.Layouts.{fields_reads}
use Rattle.sheet.specs.declared.class.Class.{Class}
use Rattle.sheet.specs.declared.opening.Opening.{Opening}
use Rattle.refusals.specs.declared.Numbered.{Numbered}
use Rattle.sheet.specs.declared.refusal.Refusal.{Refusal}
use Rattle.sheet.specs.Claims.{AcceptedIsLaidOut, AnsweredAs, LaidOutIsRead}
use Rattle.sheet.specs.Classes.{SeenClass, class_at, sheet_at, seen_class, seen_sheet, Answers}
use Rattle.sheet.specs.Described.{ClassText}
use Rattle.sheet.specs.Kept.{KeptRules, KeptMember, KeptParts}
use Rattle.sheet.specs.Layout.{member_bytes, class_bytes}
use Rattle.sheet.specs.Members.{member_of, member_at}
use Rattle.sheet.specs.Opening.{opening_at, superclass_of}
use Rattle.sheet.specs.Refusals.{refusal_of, reading, members}
use Rattle.sheet.specs.Shown.{shown_member, shown_superclass, shown_class}
use Rattle.sheet.proofs.Ruled.{no_bytes, member_there, member_back}

all_of : (s : List ℕ) → s ≡ take (length s) s
all_of s = sym (take_all (length s) s (omega arith))

member_reads : (s : List ℕ) (i : ℕ) →
    Reads s (length s) i (UpTo (length s)) (member_at s i) (λ y. y.1) (λ y. shown_member s y.0) member_bytes KeptMember
member_reads s i =
    block (layered reading (text_reads s s (length s) i (all_of s))) (λ p e. text_start s i p (was_ok reading _ p e))
    (λ p room.
    let last = end p in
    let w = take last s in
    let below : (n : ℕ) → Just last n → n ≤ last = λ n h. omega arith in
    whole
    (final (λ m. m) (λ m k _. k.fields) below (layered reading (fields_reads s w last refl p.start))
    (λ f is kept on at-end.
    let (key_in, body-in) = fields_inside w p.start f (was_ok reading (fields_at w p.start) f is) in
    let size : length w ≤ length s = omega (arith, length-take last s) in
    let key-in' : end f.head.key.text ≤ length s = omega arith in
    attempt (faulted members (member_of f i))
    (λ m k.
    let (x, e) = member_there s f i key-in' (inside_more (length w) (length s) f.body size body-in) (subst KeptRules k.1.1 k.0) in
    (x, ap (faulted members) e))
    (λ m ok.
    let (rules, shows) = member_back s f i m key-in' kept (was_ok members (member_of f i) m ok) in
    done (m, last) refl (λ _. refl) (subst KeptRules (sym shows) rules) (tt, shows) (λ d _ k. shows ∙ sym k.1)))))

-- what stands before the members
record OpeningText : Type 0 where
  name : List ℕ
  superclass : List ℕ
  count : ℕ

abbrev opening_of : ClassText → OpeningText
opening_of c = record { name = c.name; superclass = c.superclass; count = length c.members }

abbrev shown_opening : List ℕ → Opening → OpeningText
shown_opening s o = record { name = bytes_at s o.name; superclass = shown_superclass s o.superclass; count = o.count }

abbrev opening_bytes : OpeningText → List ℕ
opening_bytes o = 1 ∷ (text o.name ++ (text o.superclass ++ (o.count ∷ [])))

record KeptOpening (o : OpeningText) : Type 0 where
  name : is_name o.name ≡ true
  superclass : Short o.superclass
  few : o.count ≤ 64

name_short : (t : List ℕ) → is_name t ≡ true → Short t
name_short [] h = omega arith
name_short (b ∷ bs) h =
    let rest = (and_parts (not (is_digit b)) _ h).1 in
    let few = leb-true (length (b ∷ bs)) 64 (and_parts (leb (length (b ∷ bs)) 64) (all_in_name (b ∷ bs)) rest).0 in
    omega arith

superclass_shown : (s : List ℕ) (p : Place) → shown_superclass s (superclass_of p) ≡ bytes_at s p
superclass_shown s p = by (eqb p.length 0) refl
  where
    by : (b : Bool) → eqb p.length 0 ≡ b → shown_superclass s (cond b None (Some p)) ≡ bytes_at s p
    by true h = sym (no_bytes s p (eqb-true p.length 0 h))
    by false h = refl

opening_reads : (s : List ℕ) →
    Reads s (length s) 0 (UpTo (length s)) (opening_at s) (λ y. y.1) (λ y. shown_opening s y.0) opening_bytes KeptOpening
opening_reads s =
    let last = length s in
    let is = all_of s in
    whole
    (field (λ _. 1) (λ o k _. tt) (λ n h. h) (byte s s last 0 1 is refl)
    (λ version _ _ _. guard (eqb version 1) Version (λ o j k laid m. eq-eqb version 1 (sym k.1.1))
    (λ one. field (λ o. o.name) (λ o k _. name_short o.name k.name) (λ n h. h) (text_reads s s last 1 is)
    (λ name _ short _. guard (is_name (bytes_at s name)) (NoName 1) (λ o j k laid m. ap is_name (sym k.1.1) ∙ k.0.name)
    (λ named. field (λ o. o.superclass) (λ o k _. k.superclass) (λ n h. h) (text_reads s s last (end name) is)
    (λ parent _ short' _. final (λ o. o.count) (λ o k _. tt) (λ n h. h) (byte s s last (end parent) (end parent + 1) is refl)
    (λ n _ _ _ _. guard (leb n 64) (Unknown (end parent)) (λ o j k laid m. le-leb n 64 (omega (arith, k.0.few, k.1.1)))
    (λ few.
    let shows = superclass_shown s parent in
    done (record { name = name; superclass = superclass_of parent; count = n }, end parent + 1) refl (λ h. h)
    (record { name = named; superclass = subst Short (sym shows) short'; few = leb-true n 64 few })
    ((((tt, sym (eqb-true version 1 one)), refl), shows), refl)
    (λ o _ k ι. record {
      name = sym k.0.0.1 ι;
      superclass = (shows ∙ sym k.0.1) ι;
      count = sym k.1 ι;
    })))))))))

regroup : (a b : List ℕ) (n : ℕ) (rest : List ℕ) → (1 ∷ (a ++ (b ++ (n ∷ [])))) ++ rest ≡ 1 ∷ (a ++ (b ++ (n ∷ rest)))
regroup a b n rest =
    ap (λ l. 1 ∷ l) (append_assoc a (b ++ (n ∷ [])) rest ∙ ap (λ l. a ++ l) (append_assoc b (n ∷ []) rest))

class_reads : (s : List ℕ) → Reads s (length s) 0 (Just (length s)) (class_at s) (λ _. length s) (shown_class s) class_bytes KeptParts
class_reads s =
    let last = length s in
    let below : (n : ℕ) → Just last n → n ≤ last = λ n h. omega arith in
    said together (λ c h. h) (λ c h. h)
    (whole
    (field opening_of (λ c k _. record { name = k.name; superclass = k.superclass; few = k.few_members }) below (layered reading (opening_reads s))
    (λ o _ opened _. closing (λ ms. reading (Spare ms.1)) (λ c. c.members)
    (λ c k h. ((k.few_members, k.members), (tt, ap (λ (g : OpeningText). g.count) h.1)))
    (items_reads s last (member_at s) (shown_member s) member_bytes KeptMember (member_reads s) 64 o.0.count o.1 opened.few)
    (λ ms _ few _ at-end. done (record { name = o.0.name; superclass = o.0.superclass; members = ms.0 }) (sym at-end) (λ _. at-end)
    (record { name = opened.name; superclass = opened.superclass; few_members = few.0.0; members = few.0.1 })
    ((tt, λ ι. record { name = bytes_at s o.0.name; superclass = shown_superclass s o.0.superclass; count = few.1.1 ι }), refl)
    (λ c _ k ι. record {
      name = (sym k.0.1 ι).name;
      superclass = (sym k.0.1 ι).superclass;
      members = sym k.1 ι;
    })))))
  where
    together : (c : ClassText) → KeptParts c → opening_bytes (opening_of c) ++ flat_map member_bytes c.members ≡ class_bytes c
    together c _ = regroup (text c.name) (text c.superclass) (length c.members) (flat_map member_bytes c.members)

-- what is accepted has no more bytes than a sheet can have
accepted : (s : List ℕ) (c : SeenClass) → sheet_at s ≡ Ok c → (length s ≤ 65535) × (class_at s ≡ Ok c)
accepted s c e = by (ltb 65535 (length s)) refl e
  where
    by : (b : Bool) → ltb 65535 (length s) ≡ b → cond b (Err (reading (Spare 65535))) (class_at s) ≡ Ok c → (length s ≤ 65535) × (class_at s ≡ Ok c)
    by true h is = let z : ◌≡◌ {A = ℕ} 0 1 = cc in absurd (omega arith)
    by false h is = (omega (arith, ltb-false 65535 (length s) h), is)

pub accepted_is_laid_out : (P : Type 0) (s : List ℕ) (r : Result Class Refusal) → Small s → Answers P (seen_sheet r) (sheet_at s) →
    AcceptedIsLaidOut s r
accepted_is_laid_out P s r small answer c is =
    let read : Ok (seen_class c) ≡ sheet_at s = subst (λ r. Answers P (seen_sheet r) (sheet_at s)) is answer in
    let (short, e) = accepted s (seen_class c) (sym read) in
    let all = (class_reads s).sound small (room_all s) (seen_class c) e in
    let same = all_laid all.laid in
    (same, record { parts = all.kept; short = omega (arith, ap length same) })

-- an answer where a class is expected: that class, or want of memory
refused : (P : Type 0) (x : SeenClass) (o : Option Numbered) → Answers P (Err o) (Ok x) → o ≡ None
refused P x (Some n) e = let z : ◌≡◌ {A = ℕ} 0 1 = cc in absurd (omega arith)
refused P x None e = refl

told : (P : Type 0) (s : List ℕ) (d : ClassText) (x : SeenClass) → shown_class s x ≡ d → (r : Result Class Refusal) →
    Answers P (seen_sheet r) (Ok x) → AnsweredAs s d r
told P s d x shows (Ok c) e = ap (shown_class s) (same_ok e) ∙ shows
told P s d x shows (Err f) e = refused P x (refusal_of f) e

pub laid_out_is_read : (P : Type 0) (s : List ℕ) (r : Result Class Refusal) → Answers P (seen_sheet r) (sheet_at s) → LaidOutIsRead s r
laid_out_is_read P s r answer d kept same =
    let bytes : Laid s 0 (length s) (class_bytes d) = subst (λ l. Laid s 0 (length s) l) same (laid_all s) in
    let all = (class_reads s).complete (room_all s) d (length s) kept.parts bytes refl in
    let short : length s ≤ 65535 = omega (arith, kept.short, ap length same) in
    let read : sheet_at s ≡ Ok all.value =
    ap (λ b. cond b (Err (reading (Spare 65535))) (class_at s)) (le-ltb 65535 (length s) short) ∙ all.is in
    told P s d all.value all.shows r (subst (λ e. Answers P (seen_sheet r) e) read answer)
