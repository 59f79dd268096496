-- The texts of a member that is read lie inside of its sheet. Assumes nothing.
use Rattle.std.proofs.Common.{◌≡◌, ℕ, ◌+◌, ◌≤◌, Bool, true, false, cond, List, length, Ok, Result, subst, arith}
use Rattle.formats.specs.declared.ReadFault.{ReadFault}
use Rattle.formats.specs.declared.ReadFault.TheVariants.{Spare}
use Rattle.formats.specs.Readers.{then}
use Rattle.formats.specs.Reading.{end, byte_at}
use Rattle.formats.proofs.Formats.{went, same_ok, not_refused}
use Rattle.lists.specs.Listed.{counted}
use Rattle.pieces.specs.Codes.{kind_of, flags_of, key_kind_of}
use Rattle.pieces.specs.Items.{decorator_at, parameter_at}
use Rattle.pieces.specs.Parts.{piece_at, place_of, key, body, names_key}
use Rattle.pieces.proofs.Texts.{piece_inside}
use Rattle.pieces.specs.declared.codes.Kind.{Kind}
use Rattle.pieces.specs.declared.parts.Key.{Key}
use Rattle.pieces.specs.declared.parts.Body.{Body}
use Rattle.pieces.specs.declared.parts.Body.TheVariants.{Text, Constructor}
use Rattle.pieces.specs.declared.fields.Head.{Head}
use Rattle.pieces.specs.Fields.{Fields, key_at, head_at, body_at, fields_at}
use Rattle.pieces.specs.Bodies.{is_constructor}
use Rattle.pieces.proofs.Layouts.{makes_key, makes_body}

-- the texts of a body end before `n`
abbrev pub BodyInside : ℕ → Body → Type 0
BodyInside n (Text p) = end p ≤ n
BodyInside n (Constructor head tail) = (end head ≤ n) × (end tail ≤ n)

pub inside_more : (m n : ℕ) (b : Body) → m ≤ n → BodyInside m b → BodyInside n b
inside_more m n (Text p) h inside = omega arith
inside_more m n (Constructor head tail) h inside = (omega arith, omega arith)

key_inside : (w : List ℕ) (of : Kind) (i : ℕ) (k : Key × ℕ) → key_at w of i ≡ Ok k → end k.0.text ≤ length w
key_inside w of i k e0 =
    let (c, _, e1) = went (byte_at w i) _ k e0 in
    let (kind, _, e2) = went (key_kind_of c i) _ k e1 in
    let (q, is, e3) = went (piece_at w (key of kind) (i + 1)) _ k e2 in
    subst (λ (x : Key × ℕ). end x.0.text ≤ length w) (same_ok e3)
    (piece_inside w (i + 1) (key of kind) (names_key of kind) (makes_key of kind) q is)

head_inside : (w : List ℕ) (i : ℕ) (h : Head × ℕ) → head_at w i ≡ Ok h → end h.0.key.text ≤ length w
head_inside w i h e0 =
    let (a, _, e1) = went (byte_at w i) _ h e0 in
    let (kind, _, e2) = went (kind_of a i) _ h e1 in
    let (b, _, e3) = went (byte_at w (i + 1)) _ h e2 in
    let (flags, _, e4) = went (flags_of b (i + 1)) _ h e3 in
    let (k, is, e5) = went (key_at w kind (i + 2)) _ h e4 in
    subst (λ (x : Head × ℕ). end x.0.key.text ≤ length w) (same_ok e5) (key_inside w kind (i + 2) k is)

body_inside : (w : List ℕ) (constructor : Bool) (i : ℕ) (b : Body × ℕ) →
    ◌≡◌ {A = Result (Body × ℕ) ReadFault}
    (then (piece_at w body i)
    (λ p. cond constructor
    (then (piece_at w body (end (place_of p))) (λ q. Ok (Constructor (place_of p) (place_of q), end (place_of q))))
    (Ok (Text (place_of p), end (place_of p)))))
    (Ok b) →
    BodyInside (length w) b.0
body_inside w true i b e =
    let (p, is, e1) = went (piece_at w body i) _ b e in
    let (q, is', e2) = went (piece_at w body (end (place_of p))) _ b e1 in
    subst (λ (x : Body × ℕ). BodyInside (length w) x.0) (same_ok e2)
    (piece_inside w i body false makes_body p is, piece_inside w (end (place_of p)) body false makes_body q is')
body_inside w false i b e =
    let (p, is, e1) = went (piece_at w body i) _ b e in
    subst (λ (x : Body × ℕ). BodyInside (length w) x.0) (same_ok e1) (piece_inside w i body false makes_body p is)

pub fields_inside : (w : List ℕ) (i : ℕ) (f : Fields) → fields_at w i ≡ Ok f →
    (end f.head.key.text ≤ length w) × BodyInside (length w) f.body
fields_inside w i f e =
    let (h, is, e1) = went (head_at w i) _ f e in
    let (ds, _, e2) = went (counted 8 (decorator_at w) w h.1) _ f e1 in
    let (ps, _, e3) = went (counted 16 (parameter_at w) w ds.1) _ f e2 in
    let (b, is', e4) = went (body_at w h.0.kind ps.1) _ f e3 in
    let (_, same) = not_refused _ (Spare b.1) (record { head = h.0; decorators = ds.0; parameters = ps.0; body = b.0 }) f e4 in
    subst (λ (x : Fields). (end x.head.key.text ≤ length w) × BodyInside (length w) x.body) same
    (head_inside w i h is, body_inside w (is_constructor h.0.kind) ps.1 b is')
