-- The codes of a member and what they stand for are each other's inverses. Assumes nothing.
use Rattle.std.proofs.Common.{◌≡◌, ℕ, zero, suc, ◌+◌, ◌*◌, ◌/◌, ◌%◌, ◌<◌, ◌≤◌, Bool, true, false, cond, eqb, ltb, List, [], ◌∷◌, Ok, Err, sym, refl, ap, ◌∙◌, arith}
use Rattle.std.proofs.lemmas.Bool.{eqb-true, ltb-true, lt-ltb}
use Rattle.formats.specs.declared.ReadFault.TheVariants.{Unknown}
use Rattle.formats.proofs.Formats.{same_ok}
use Rattle.formats.proofs.Parts.{Codes}
use Rattle.pieces.specs.declared.codes.Kind.{Kind}
use Rattle.pieces.specs.declared.codes.Kind.TheVariants as kind
use Rattle.pieces.specs.declared.codes.KeyKind.{KeyKind}
use Rattle.pieces.specs.declared.codes.KeyKind.TheVariants as key
use Rattle.pieces.specs.declared.codes.Shape.{Shape}
use Rattle.pieces.specs.declared.codes.Shape.TheVariants as shape
use Rattle.pieces.specs.declared.codes.Form.{Form}
use Rattle.pieces.specs.declared.codes.Form.TheVariants as form
use Rattle.pieces.specs.declared.codes.Flags.{Flags}
use Rattle.pieces.specs.Codes.{decoded, kind_code, all_kinds, kind_of, key_code, all_key_kinds, key_kind_of, shape_code, all_shapes, shape_of, form_code, all_forms, form_of, flag, flags_of, bit, flags_code}

-- what a code is found to stand for has that code
decoded_back : {K : Type 0} (code : K → ℕ) (ks : List K) (at a : ℕ) (k : K) → decoded code ks a at ≡ Ok k → code k ≡ a
decoded_back code [] at a k e = let z : ◌≡◌ {A = ℕ} 0 1 = cc in absurd (omega arith)
decoded_back code (x ∷ ks) at a k e = by (eqb a (code x)) refl e (decoded_back code ks at a k)
  where
    by : (b : Bool) → eqb a (code x) ≡ b → cond b (Ok x) (decoded code ks a at) ≡ Ok k → (decoded code ks a at ≡ Ok k → code k ≡ a) → code k ≡ a
    by true h is others = ap code (sym (same_ok is)) ∙ sym (eqb-true a (code x) h)
    by false h is others = others is

kind_there : (at : ℕ) (k : Kind) → kind_of (kind_code k) at ≡ Ok k
kind_there at kind.Field = refl
kind_there at kind.Accessor = refl
kind_there at kind.Method = refl
kind_there at kind.Getter = refl
kind_there at kind.Setter = refl
kind_there at kind.Constructor = refl
kind_there at kind.Other = refl

pub kinds : (at : ℕ) → Codes (λ a. kind_of a at) kind_code
kinds at = record { there = kind_there at; back = decoded_back kind_code all_kinds at }

key_there : (at : ℕ) (k : KeyKind) → key_kind_of (key_code k) at ≡ Ok k
key_there at key.Identifier = refl
key_there at key.Literal = refl
key_there at key.ComputedIdentifier = refl
key_there at key.Computed = refl

pub keys : (at : ℕ) → Codes (λ a. key_kind_of a at) key_code
keys at = record { there = key_there at; back = decoded_back key_code all_key_kinds at }

shape_there : (at : ℕ) (k : Shape) → shape_of (shape_code k) at ≡ Ok k
shape_there at shape.Identifier = refl
shape_there at shape.Arrow = refl
shape_there at shape.Function = refl
shape_there at shape.Other = refl

pub shapes : (at : ℕ) → Codes (λ a. shape_of a at) shape_code
shapes at = record { there = shape_there at; back = decoded_back shape_code all_shapes at }

form_there : (at : ℕ) (k : Form) → form_of (form_code k) at ≡ Ok k
form_there at form.Other = refl
form_there at form.Plain = refl

pub forms : (at : ℕ) → Codes (λ a. form_of a at) form_code
forms at = record { there = form_there at; back = decoded_back form_code all_forms at }

-- a flag's value, where it is set, is that multiple of 1
bit_times : (b : Bool) (v : ℕ) → bit b v ≡ v * bit b 1
bit_times true v = omega arith
bit_times false v = omega arith

bit_small : (b : Bool) → bit b 1 ≤ 1
bit_small true = omega arith
bit_small false = omega arith

bit_is : (b : Bool) (x : ℕ) → x ≡ bit b 1 → eqb x 1 ≡ b
bit_is true x e = ap (λ n. eqb n 1) e
bit_is false x e = ap (λ n. eqb n 1) e

-- the six bits of a number below 64
record Bits (a x0 x1 x2 x3 x4 x5 : ℕ) : Type 0 where
  small : a < 64
  b0 : a / 1 % 2 ≡ x0
  b1 : a / 2 % 2 ≡ x1
  b2 : a / 4 % 2 ≡ x2
  b3 : a / 8 % 2 ≡ x3
  b4 : a / 16 % 2 ≡ x4
  b5 : a / 32 % 2 ≡ x5

bits : (a x0 x1 x2 x3 x4 x5 : ℕ) → a ≡ x0 + (2 * x1 + (4 * x2 + (8 * x3 + (16 * x4 + 32 * x5)))) →
    x0 ≤ 1 → x1 ≤ 1 → x2 ≤ 1 → x3 ≤ 1 → x4 ≤ 1 → x5 ≤ 1 → Bits a x0 x1 x2 x3 x4 x5
bits a x0 x1 x2 x3 x4 x5 is h0 h1 h2 h3 h4 h5 = record {
  small = omega arith;
  b0 = omega arith;
  b1 = omega arith;
  b2 = omega arith;
  b3 = omega arith;
  b4 = omega arith;
  b5 = omega arith;
}

abbrev Flagged : Type 0
Flagged = Flags × Bool

abbrev pub flagged_code : Flagged → ℕ
flagged_code f = flags_code f.0 f.1

flagged_bits : (f : Flagged) →
    Bits (flagged_code f) (bit f.0.is_static 1) (bit f.0.is_private 1) (bit f.1 1)
    (bit f.0.is_async 1) (bit f.0.is_generator 1) (bit f.0.is_declared 1)
flagged_bits f =
    bits (flagged_code f) _ _ _ _ _ _
    (omega (
      arith,
      bit_times f.0.is_private 2,
      bit_times f.1 4,
      bit_times f.0.is_async 8,
      bit_times f.0.is_generator 16,
      bit_times f.0.is_declared 32,
    ))
    (bit_small f.0.is_static) (bit_small f.0.is_private) (bit_small f.1)
    (bit_small f.0.is_async) (bit_small f.0.is_generator) (bit_small f.0.is_declared)

abbrev flagged_of : ℕ → Flagged
flagged_of a = (
  record {
    is_static = flag 1 a;
    is_private = flag 2 a;
    is_async = flag 8 a;
    is_generator = flag 16 a;
    is_declared = flag 32 a;
  },
  flag 4 a,
)

flags_there : (at : ℕ) (f : Flagged) → flags_of (flagged_code f) at ≡ Ok f
flags_there at f =
    let a = flagged_code f in
    let b = flagged_bits f in
    let same : flagged_of a ≡ f = λ ι. (
      record {
        is_static = bit_is f.0.is_static (a / 1 % 2) b.b0 ι;
        is_private = bit_is f.0.is_private (a / 2 % 2) b.b1 ι;
        is_async = bit_is f.0.is_async (a / 8 % 2) b.b3 ι;
        is_generator = bit_is f.0.is_generator (a / 16 % 2) b.b4 ι;
        is_declared = bit_is f.0.is_declared (a / 32 % 2) b.b5 ι;
      },
      bit_is f.1 (a / 4 % 2) b.b2 ι,
    ) in
    ap (λ t. cond t (Ok (flagged_of a)) (Err (Unknown at))) (lt-ltb a 64 b.small) ∙ ap Ok same

-- a flag that is set has its value in the sum
set_bit : (x v : ℕ) → x < 2 → bit (eqb x 1) v ≡ v * x
set_bit zero v h = omega arith
set_bit (suc zero) v h = omega arith
set_bit (suc (suc x)) v h = absurd (omega arith)

-- the next half of a number, and what is left
halves : (a v w : ℕ) → a / w ≡ a / v / 2 → a / v ≡ 2 * (a / w) + a / v % 2
halves a v w e = let q = a / v in omega arith

bits_sum : (a : ℕ) → a < 64 → flagged_code (flagged_of a) ≡ a
bits_sum a h =
    let s0 = halves a 1 2 (omega arith) in
    let s1 = halves a 2 4 (omega arith) in
    let s2 = halves a 4 8 (omega arith) in
    let s3 = halves a 8 16 (omega arith) in
    let s4 = halves a 16 32 (omega arith) in
    let s5 : a / 32 ≡ a / 32 % 2 = omega arith in
    let whole : a / 1 ≡ a = omega arith in
    sum a (a / 1) (a / 2) (a / 4) (a / 8) (a / 16) (a / 32) whole s0 s1 s2 s3 s4 s5
  where
    sum : (a q0 q1 q2 q3 q4 q5 : ℕ) → q0 ≡ a → q0 ≡ 2 * q1 + q0 % 2 → q1 ≡ 2 * q2 + q1 % 2 → q2 ≡ 2 * q3 + q2 % 2 →
        q3 ≡ 2 * q4 + q3 % 2 → q4 ≡ 2 * q5 + q4 % 2 → q5 ≡ q5 % 2 →
        bit (eqb (q0 % 2) 1) 1 + (bit (eqb (q1 % 2) 1) 2 + (bit (eqb (q2 % 2) 1) 4
        + (bit (eqb (q3 % 2) 1) 8 + (bit (eqb (q4 % 2) 1) 16 + bit (eqb (q5 % 2) 1) 32)))) ≡ a
    sum a q0 q1 q2 q3 q4 q5 w e0 e1 e2 e3 e4 e5 =
        omega (
          arith,
          set_bit (q0 % 2) 1 (omega arith),
          set_bit (q1 % 2) 2 (omega arith),
          set_bit (q2 % 2) 4 (omega arith),
          set_bit (q3 % 2) 8 (omega arith),
          set_bit (q4 % 2) 16 (omega arith),
          set_bit (q5 % 2) 32 (omega arith),
        )

flags_back : (at a : ℕ) (f : Flagged) → flags_of a at ≡ Ok f → flagged_code f ≡ a
flags_back at a f e = by (ltb a 64) refl e
  where
    by : (b : Bool) → ltb a 64 ≡ b → cond b (Ok (flagged_of a)) (Err (Unknown at)) ≡ Ok f → flagged_code f ≡ a
    by true h is = ap flagged_code (sym (same_ok is)) ∙ bits_sum a (ltb-true a 64 h)
    by false h is = let z : ◌≡◌ {A = ℕ} 0 1 = cc in absurd (omega arith)

pub flags : (at : ℕ) → Codes (λ a. flags_of a at) flagged_code
flags at = record { there = flags_there at; back = flags_back at }
