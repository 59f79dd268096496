-- What is taken from a list, bounded by its length or not. Assumes nothing.
use Rattle.std.proofs.Common.{◌≡◌, ℕ, ◌+◌, ◌*◌, ◌<◌, ◌≤◌, min, Bool, true, false, cond, ltb, leb, List, length, get_or, take, drop, Ok, Err, Result, sym, refl, ap, ◌∙◌, ap₂, arith}
use Rattle.std.specs.List.{between}
use Rattle.std.proofs.lemmas.List.{take_all, drop_all, length-take, get_or-take, take-take}
use Rattle.std.proofs.lemmas.Bool.{leb-true, leb-false, ltb-true}
use Rattle.std.proofs.lemmas.Slice.{between_is}
use Rattle.formats.specs.declared.Place.{Place}
use Rattle.formats.specs.declared.ReadFault.{ReadFault}
use Rattle.formats.specs.declared.ReadFault.TheVariants.{CutShort}
use Rattle.formats.specs.Readers.{then}
use Rattle.formats.specs.Reading.{end, bytes_at, byte_at, word_at, text_at}

-- as many as there are, or all
pub taken : (s : List ℕ) (n k : ℕ) → k ≡ min n (length s) → take k s ≡ take n s
taken s n k is = by (leb n (length s)) refl
  where
    by : (b : Bool) → leb n (length s) ≡ b → take k s ≡ take n s
    by true h = let le = leb-true n (length s) h in let e : k ≡ n = omega arith in ap (λ m. take m s) e
    by false h =
        let lt = leb-false n (length s) h in
        take_all k s (omega arith) ∙ sym (take_all n s (omega arith))

-- a part that is bounded at both of its ends
pub clipped : (s : List ℕ) (i j a b : ℕ) → a ≡ min i (length s) → b ≡ min j (length s) → between a b s ≡ between i j s
clipped s i j a b is-a is_b =
    between_is s a b ∙ (ap (drop a) (taken s j b is_b) ∙ (by (leb i (length s)) refl ∙ sym (between_is s i j)))
  where
    by : (t : Bool) → leb i (length s) ≡ t → drop a (take j s) ≡ drop i (take j s)
    by true h = let le = leb-true i (length s) h in let e : a ≡ i = omega arith in ap (λ m. drop m (take j s)) e
    by false h =
        let lt = leb-false i (length s) h in
        let size = length-take j s in
        drop_all a (take j s) (omega arith) ∙ sym (drop_all i (take j s) (omega arith))

-- What is read of the first `last` bytes of `s`, by offsets of `s` itself.
abbrev pub byte_to : List ℕ → ℕ → ℕ → Result ℕ ReadFault
byte_to s i last = cond (ltb i last) (Ok (get_or s i 0)) (Err (CutShort i))

abbrev pub word_to : List ℕ → ℕ → ℕ → Result ℕ ReadFault
word_to s i last = cond (leb (i + 2) last) (Ok (get_or s i 0 * 256 + get_or s (i + 1) 0)) (Err (CutShort i))

abbrev pub text_to : List ℕ → ℕ → ℕ → Result Place ReadFault
text_to s i last =
    then (word_to s i last)
    (λ n. cond (leb (i + 2 + n) last) (Ok (record { start = i + 2; length = n })) (Err (CutShort i)))

-- a window: the first `last` bytes
pub length_window : (s w : List ℕ) (last : ℕ) → w ≡ take last s → last ≤ length s → length w ≡ last
length_window s w last is h = let size = length-take last s in omega (arith, ap length is)

get_or_window : (s w : List ℕ) (last i : ℕ) → w ≡ take last s → i < last → get_or w i 0 ≡ get_or s i 0
get_or_window s w last i is h = ap (λ l. get_or l i 0) is ∙ get_or-take last s i 0 h

pub byte_window : (s w : List ℕ) (last i : ℕ) → w ≡ take last s → last ≤ length s → byte_to s i last ≡ byte_at w i
byte_window s w last i is h =
    by (ltb i last) refl ∙ ap (λ n. cond (ltb i n) (Ok (get_or w i 0)) (Err (CutShort i))) (sym (length_window s w last is h))
  where
    by : (b : Bool) → ltb i last ≡ b → byte_to s i last ≡ cond (ltb i last) (Ok (get_or w i 0)) (Err (CutShort i))
    by true e = ap (λ b. cond (ltb i last) (Ok b) (Err (CutShort i))) (sym (get_or_window s w last i is (ltb-true i last e)))
    by false e = rw e

word_window : (s w : List ℕ) (last i : ℕ) → w ≡ take last s → last ≤ length s → word_to s i last ≡ word_at w i
word_window s w last i is h =
    by (leb (i + 2) last) refl
    ∙ ap (λ n. cond (leb (i + 2) n) (Ok (get_or w i 0 * 256 + get_or w (i + 1) 0)) (Err (CutShort i))) (sym (length_window s w last is h))
  where
    by : (b : Bool) → leb (i + 2) last ≡ b →
        word_to s i last ≡ cond (leb (i + 2) last) (Ok (get_or w i 0 * 256 + get_or w (i + 1) 0)) (Err (CutShort i))
    by true e =
        let inside = leb-true (i + 2) last e in
        ap₂ (λ a b. cond (leb (i + 2) last) (Ok (a * 256 + b)) (Err (CutShort i)))
        (sym (get_or_window s w last i is (omega arith))) (sym (get_or_window s w last (i + 1) is (omega arith)))
    by false e = rw e

pub text_window : (s w : List ℕ) (last i : ℕ) → w ≡ take last s → last ≤ length s → text_to s i last ≡ text_at w i
text_window s w last i is h =
    ap₂ (λ r m. then r (λ n. cond (leb (i + 2 + n) m) (Ok (record { start = i + 2; length = n })) (Err (CutShort i))))
    (word_window s w last i is h) (sym (length_window s w last is h))

-- the bytes at a place inside of the window
pub bytes_window : (s w : List ℕ) (last : ℕ) (p : Place) → w ≡ take last s → end p ≤ last → bytes_at w p ≡ bytes_at s p
bytes_window s w last p is h =
    ap (λ l. bytes_at l p) is
    ∙ (between_is (take last s) p.start (end p)
    ∙ (ap (drop p.start) (take-take (end p) last s h) ∙ sym (between_is s p.start (end p))))
