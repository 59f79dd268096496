-- Bytes, words, texts and codes, each with its layout. Assumes nothing.
use Rattle.std.proofs.Common.{◌≡◌, ℕ, ◌+◌, ◌*◌, ◌/◌, ◌%◌, ◌<◌, ◌≤◌, cond, leb, List, [], ◌∷◌, length, get_or, take, Ok, Err, Result, sym, refl, ap, ◌∙◌, subst, ap₂, arith}
use Rattle.std.specs.List.{between}
use Rattle.std.proofs.ByRecursion.{All-get_or}
use Rattle.std.proofs.lemmas.List.Edits.{length-between}
use Rattle.std.proofs.lemmas.Bool.{lt-ltb, le-leb, leb-true}
use Rattle.std.proofs.lemmas.Bool.Decides.{nat_tests}
use Rattle.formats.specs.declared.Place.{Place}
use Rattle.formats.specs.declared.ReadFault.{ReadFault}
use Rattle.formats.specs.declared.ReadFault.TheVariants.{CutShort}
use Rattle.formats.specs.Reading.{end, bytes_at, byte_at, text_at}
use Rattle.formats.specs.Readers.{then}
use Rattle.formats.specs.Bytes.{word, text, Short}
use Rattle.formats.proofs.Laid.{Laid, laid_nil, laid_append, laid_split, laid_byte, byte_laid, laid_part, part_laid}
use Rattle.formats.proofs.Formats.{Room, Stands, Reads, UpTo, same_ok, field, guard, whole, said, windowed}
use Rattle.formats.proofs.Windows.{byte_to, word_to, text_to, byte_window, text_window}

byte_inside : (s : List ℕ) (last i y : ℕ) → byte_to s i last ≡ Ok y → i < last
byte_inside s last i y e = grind (arith, nat_tests)

byte_is : (s : List ℕ) (last i y : ℕ) → byte_to s i last ≡ Ok y → get_or s i 0 ≡ y
byte_is s last i y e = grind (arith, nat_tests)

is_byte : (s : List ℕ) (last i : ℕ) → i < last → byte_to s i last ≡ Ok (get_or s i 0)
is_byte s last i h = ap (λ b. cond b (Ok (get_or s i 0)) (Err (CutShort i))) (lt-ltb i last h)

byte_to_reads : (s : List ℕ) (last i j : ℕ) → i + 1 ≡ j →
    Reads s last i (UpTo last) (byte_to s i last) (λ _. j) (λ a. a) (λ a. a ∷ []) (λ _. Unit)
byte_to_reads s last i j after = record {
  sound = λ small room y e.
      let h = byte_inside s last i y e in
      let here = laid_byte s i (omega (arith, room.inside)) in
      record {
        laid = subst (λ b. Laid s i j (b ∷ [])) (byte_is s last i y e) (subst (λ n. Laid s i n (get_or s i 0 ∷ [])) after here);
        ends = omega arith;
        kept = tt;
      };
  complete = λ room d k _ laid m.
      record {
        value = get_or s i 0;
        is = is_byte s last i (omega (arith, laid.size));
        stops = omega (arith, laid.size);
        shows = byte_laid laid;
      };
}

-- any byte
pub byte : (s w : List ℕ) (last i j : ℕ) → w ≡ take last s → i + 1 ≡ j →
    Reads s last i (UpTo last) (byte_at w i) (λ _. j) (λ a. a) (λ a. a ∷ []) (λ _. Unit)
byte s w last i j is after = windowed (byte_window s w last i is) (byte_to_reads s last i j after)

word_inside : (s : List ℕ) (last i n : ℕ) → word_to s i last ≡ Ok n → i + 2 ≤ last
word_inside s last i n e = grind (arith, nat_tests)

word_is : (s : List ℕ) (last i n : ℕ) → word_to s i last ≡ Ok n → get_or s i 0 * 256 + get_or s (i + 1) 0 ≡ n
word_is s last i n e = grind (arith, nat_tests)

is_word : (s : List ℕ) (last i : ℕ) → i + 2 ≤ last → word_to s i last ≡ Ok (get_or s i 0 * 256 + get_or s (i + 1) 0)
is_word s last i h =
    ap (λ b. cond b (Ok (get_or s i 0 * 256 + get_or s (i + 1) 0)) (Err (CutShort i))) (le-leb (i + 2) last h)

high : (a b n : ℕ) → a * 256 + b ≡ n → b < 256 → a ≡ n / 256
high a b n e h = omega arith

low : (a b n : ℕ) → a * 256 + b ≡ n → b < 256 → b ≡ n % 256
low a b n e h = omega arith

-- two bytes, the high one first
word_to_reads : (s : List ℕ) (last i : ℕ) →
    Reads s last i (UpTo last) (word_to s i last) (λ _. i + 2) (λ n. n) word (λ n. n < 65536)
word_to_reads s last i = record {
  sound = λ small room n e.
      let inside = word_inside s last i n e in
      let sum = word_is s last i n e in
      let a = get_or s i 0 in
      let b = get_or s (i + 1) 0 in
      let a_small : a < 256 = All-get_or (λ b. b < 256) s i 0 (omega (arith, room.inside)) small in
      let b-small : b < 256 = All-get_or (λ b. b < 256) s (i + 1) 0 (omega (arith, room.inside)) small in
      let one = laid_byte s i (omega (arith, room.inside)) in
      let two = laid_byte s (i + 1) (omega (arith, room.inside)) in
      let after : i + 1 + 1 ≡ i + 2 = omega arith in
      let both : Laid s i (i + 1 + 1) (a ∷ b ∷ []) = laid_append one two in
      record {
        laid = subst (λ bs. Laid s i (i + 2) bs) (ap₂ (λ x y. x ∷ y ∷ []) (high a b n sum b-small) (low a b n sum b-small))
            (subst (λ j. Laid s i j (a ∷ b ∷ [])) after both);
        ends = inside;
        kept = omega (arith, sum);
      };
  complete = λ room n j below laid m.
      let (p, q) = laid_split (n / 256 ∷ []) (n % 256 ∷ []) laid in
      let a = byte_laid p in
      let b = byte_laid q in
      let size = laid.size in
      let here : i + 2 ≤ last = omega arith in
      record {
        value = get_or s i 0 * 256 + get_or s (i + 1) 0;
        is = is_word s last i here;
        stops = omega (arith, size);
        shows = omega (arith, a, b);
      };
}

-- so many bytes, as they stand
raw : {Y F : Type 0} {keeps : List ℕ → Type 0} (s : List ℕ) (last i n : ℕ) (y : Y) (stop : Y → ℕ) (view : Y → List ℕ) →
    stop y ≡ i + n → view y ≡ between i (i + n) s → i + n ≤ last → ((t : List ℕ) → length t ≡ n → keeps t) →
    Reads s last i (UpTo last) {F = F} (Ok y) stop view (λ t. t) (λ t. keeps t × (Unit × (length t ≡ n)))
raw {Y} {F} {keeps} s last i n y stop view stops views inside holds = record {
  sound = λ small room z e.
      let K : List ℕ → Type 0 = λ t. keeps t × (Unit × (length t ≡ n)) in
      let P : Y → Type 0 = λ z. Stands s i (stop z) (UpTo last) (view z) (K (view z)) in
      let Q : ℕ → Type 0 = λ j. Stands s i j (UpTo last) (view y) (K (view y)) in
      let R : List ℕ → Type 0 = λ bs. Stands s i (i + n) (UpTo last) bs (K bs) in
      let size : length (between i (i + n) s) ≡ n = omega (arith, length-between s i (i + n) (omega (arith, room.inside))) in
      let here : R (between i (i + n) s) = record {
        laid = laid_part s i (i + n) (omega arith) (omega (arith, room.inside));
        ends = inside;
        kept = (holds _ size, (tt, size));
      } in
      subst P (same_ok e) (subst Q (sym stops) (subst R (sym views) here));
  complete = λ room t j k laid m.
      let to : j ≡ i + n = omega (arith, laid.size, k.1.1) in
      record {
        value = y;
        is = refl;
        stops = stops ∙ sym to;
        shows = views ∙ part_laid (subst (λ j. Laid s i j t) to laid);
      };
}

text_to_reads : (s : List ℕ) (last i : ℕ) → Reads s last i (UpTo last) (text_to s i last) end (bytes_at s) text Short
text_to_reads s last i =
    whole
    (field length (λ t h _. h) (λ n h. h) (word_to_reads s last i)
    (λ n _ small room. guard (leb (i + 2 + n) last) (CutShort i)
    (λ t j k laid m. le-leb (i + 2 + n) last (omega (arith, laid.size, k.1.1)))
    (λ inside. raw s last (i + 2) n (record { start = i + 2; length = n }) end (bytes_at s) refl refl (leb-true _ _ inside)
    (λ t size. omega arith))))

-- a text behind its length
pub text_reads : (s w : List ℕ) (last i : ℕ) → w ≡ take last s →
    Reads s last i (UpTo last) (text_at w i) end (bytes_at s) text Short
text_reads s w last i is = windowed (text_window s w last i is) (text_to_reads s last i)

pub text_start : (w : List ℕ) (i : ℕ) (p : Place) → text_at w i ≡ Ok p → p.start ≡ i + 2
text_start w i p e = grind (arith, nat_tests)

pub text_inside : (w : List ℕ) (i : ℕ) (p : Place) → text_at w i ≡ Ok p → end p ≤ length w
text_inside w i p e = grind (arith, nat_tests)

-- what a code stands for
decoded : {K F : Type 0} (s : List ℕ) (last i : ℕ) (of : ℕ → Result K F) (code : K → ℕ) →
    ((k : K) → of (code k) ≡ Ok k) → ((a : ℕ) (k : K) → of a ≡ Ok k → code k ≡ a) →
    (a : ℕ) → Reads s last i (UpTo last) (of a) (λ _. i) (λ k. k) (λ _. []) (λ k. code k ≡ a)
decoded s last i of code there back a = record {
  sound = λ small room k e. record { laid = laid_nil s i; ends = room.left; kept = back a k e };
  complete = λ room k j same laid m. record {
    value = k;
    is = ap of (sym same) ∙ there k;
    stops = omega (arith, laid.size);
    shows = refl;
  };
}

-- a code and what it stands for, each the other's inverse
pub record Codes {K F : Type 0} (of : ℕ → Result K F) (code : K → ℕ) : Type 0 where
  pub there : (k : K) → of (code k) ≡ Ok k
  pub back : (a : ℕ) (k : K) → of a ≡ Ok k → code k ≡ a

-- a code of one byte, and then others
pub coded : {K Y D : Type 0} {s : List ℕ} (w : List ℕ) {last i : ℕ} {may : ℕ → Type 0}
    {next : K → Result Y ReadFault} {stop : Y → ℕ} {view : Y → D} {rest : D → List ℕ} {keeps known : D → Type 0}
    → w ≡ take last s → (j : ℕ) → i + 1 ≡ j →
    (of : ℕ → Result K ReadFault) (code : K → ℕ) → Codes of code →
    (part : D → K) → ((n : ℕ) → may n → n ≤ last) →
    ((k : K) → Room s last j → Reads s last j may (next k) stop view rest (λ d. keeps d × (known d × (part d ≡ k)))) →
    Reads s last i may (then (byte_at w i) (λ a. then (of a) next)) stop view (λ d. code (part d) ∷ rest d) (λ d. keeps d × known d)
coded {s} w {last} {i} {may} {next} {stop} {view} {rest} {keeps} {known} is j after of code codes part below others =
    field (λ d. code (part d)) (λ d h _. tt) below (byte s w last i j is after)
    (λ a _ _ _. said (λ d _. refl) (λ d h. (h.0.0, (h.1, h.0.1))) (λ d h. ((h.0, h.1.1), h.1.0))
    (field {keeps = λ d. keeps d × (code (part d) ≡ a)} {known = known} part (λ d h _. h.1) below
    (decoded s last j of code codes.there codes.back a)
    (λ k _ same room. said (λ d _. refl) (λ d h. ((h.0, ap code h.1.1 ∙ same), h.1)) (λ d h. (h.0.0, h.1)) (others k room))))
