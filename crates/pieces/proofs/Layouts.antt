-- The fields of a member and their layout. Assumes nothing.
use Rattle.std.proofs.Common.{◌≡◌, ℕ, ◌+◌, ◌≤◌, Bool, true, false, cond, ltb, List, [], ◌++◌, take, Ok, Err, Result, sym, refl, ap, subst, ap₂, arith, rules}
use Rattle.std.proofs.lemmas.Bool.{true≢false, false≢true}
use Rattle.formats.specs.declared.ReadFault.{ReadFault}
use Rattle.formats.specs.declared.ReadFault.TheVariants.{Spare}
use Rattle.formats.specs.Bytes.{text, Short}
use Rattle.formats.specs.Readers.{then}
use Rattle.formats.specs.Reading.{end}
use Rattle.formats.proofs.Formats.{Reads, UpTo, Just, done, field, final, closing, whole, said, windowed}
use Rattle.formats.proofs.Parts.{coded}
use Rattle.formats.proofs.Windows.{length_window}
use Rattle.lists.specs.Listed.{counted}
use Rattle.pieces.specs.declared.codes.Kind.{Kind}
use Rattle.pieces.specs.declared.codes.KeyKind.{KeyKind}
use Rattle.pieces.specs.Codes.{kind_of, kind_code, flags_of, key_kind_of, key_code}
use Rattle.pieces.specs.Items.{decorator_at, parameter_at}
use Rattle.pieces.specs.Parts.{piece_at, place_of, key, body, names_key}
use Rattle.pieces.proofs.Inverses.{kinds, flags, flagged_code, keys}
use Rattle.pieces.proofs.Texts.{Makes, piece_reads, decorators_reads, parameters_reads}
use Rattle.pieces.specs.declared.parts.Body.{Body}
use Rattle.pieces.specs.declared.parts.Body.TheVariants.{Text, Constructor}
use Rattle.pieces.specs.Described.{HeadText, BodyText, one_text, head_and_tail}
use Rattle.pieces.specs.Fields.{Fields, key_at, head_at, body_at, fields_at}
use Rattle.pieces.specs.Kept.{KeptText, KeptKey, KeptHead, KeptBody, KeptFields}
use Rattle.pieces.specs.Layout.{key_bytes, head_bytes, body_bytes, rest_bytes}
use Rattle.pieces.specs.Bodies.{is_constructor}
use Rattle.pieces.specs.Shown.{shown_key, shown_head, shown_body, shown_fields}

pub makes_key : (of : Kind) (k : KeyKind) → Makes (key of k) (names_key of k)
makes_key of k = record { place = λ t p. refl; bytes = λ t p. refl; names = λ t p. refl }

pub makes_body : Makes body false
makes_body = record { place = λ t p. refl; bytes = λ t p. refl; names = λ t p. refl }

-- any text, or one of two
abbrev first_text : BodyText → List ℕ
first_text (one_text t) = t
first_text (head_and_tail head tail) = head

abbrev second_text : BodyText → List ℕ
second_text (one_text t) = []
second_text (head_and_tail head tail) = tail

any : {t : List ℕ} → Short t → KeptText false t
any h = record { short = h; named = λ e. absurd (false≢true e) }

module _ (s w : List ℕ) (last : ℕ) (is : w ≡ take last s) where
  key_reads : (of : Kind) (i : ℕ) → Reads s last i (UpTo last) (key_at w of i) (λ y. y.1) (λ y. shown_key s y.0) key_bytes (KeptKey of)
  key_reads of i =
      whole
      (coded w is (i + 1) refl (λ a. key_kind_of a i) key_code (keys i) (λ k. k.kind) (λ n h. h)
      (λ kind _. final (λ k. k.text) (λ k kept h. subst (λ b. KeptText (names_key of b) k.text) h.1 kept) (λ n h. h)
      (piece_reads s w last (i + 1) is (key of kind) (names_key of kind) (makes_key of kind))
      (λ q _ kept _ _. done (record { kind = kind; text = place_of q }, end (place_of q)) refl (λ h. h) kept (search rules)
      (λ k _ h. grind arith))))

  head_reads : (i : ℕ) → Reads s last i (UpTo last) (head_at w i) (λ y. y.1) (λ y. shown_head s y.0) head_bytes KeptHead
  head_reads i =
      whole
      (coded w is (i + 1) refl (λ a. kind_of a i) kind_code (kinds i) (λ h. h.kind) (λ n h. h)
      (λ kind _. coded w is (i + 2) (omega arith) (λ a. flags_of a (i + 1)) flagged_code (flags (i + 1)) (λ h. (h.flags, h.present)) (λ n h. h)
      (λ flag _. final (λ h. h.key) (λ d kept h. subst (λ of. KeptKey of d.key) h.0.1 kept) (λ n h. h)
      (key_reads kind (i + 2))
      (λ k _ kept _ _. done (record { kind = kind; flags = flag.0; present = flag.1; key = k.0 }, k.1) refl (λ h. h)
      kept (search rules)
      (λ d _ h ι. record {
        kind = sym h.0.0.1 ι;
        flags = (sym h.0.1 ι).0;
        present = (sym h.0.1 ι).1;
        key = sym h.1 ι;
      })))))

  -- of a constructor or of another member
  abbrev body_if : Bool → ℕ → Result (Body × ℕ) ReadFault
  body_if constructor i =
      then (piece_at w body i)
      (λ p. cond constructor
      (then (piece_at w body (end (place_of p))) (λ q. Ok (Constructor (place_of p) (place_of q), end (place_of q))))
      (Ok (Text (place_of p), end (place_of p))))

  body_reads : (b : Bool) (i : ℕ) → Reads s last i (UpTo last) (body_if b i) (λ y. y.1) (λ y. shown_body s y.0) body_bytes (KeptBody b)
  body_reads true i =
      said both (λ d h. h) (λ d h. h)
      (whole
      (field first_text (λ d h _. first d h) (λ n h. h) (piece_reads s w last i is body false makes_body)
      (λ p _ short _. final second_text (λ d h _. second d h) (λ n h. h) (piece_reads s w last (end (place_of p)) is body false makes_body)
      (λ q _ short' _ _. done (Constructor (place_of p) (place_of q), end (place_of q)) refl (λ h. h)
      (refl, short.short, short'.short) ((tt, refl), refl) same))))
    where
      both : (d : BodyText) → KeptBody true d → text (first_text d) ++ text (second_text d) ≡ body_bytes d
      both (one_text t) h = absurd (true≢false h.0)
      both (head_and_tail head tail) h = refl

      first : (d : BodyText) → KeptBody true d → KeptText false (first_text d)
      first (one_text t) h = any h.1
      first (head_and_tail head tail) h = any h.1

      second : (d : BodyText) → KeptBody true d → KeptText false (second_text d)
      second (one_text t) h = absurd (true≢false h.0)
      second (head_and_tail head tail) h = any h.2

      same : {a b : List ℕ} (d : BodyText) → KeptBody true d → (Unit {0} × (first_text d ≡ a)) × (second_text d ≡ b) → head_and_tail a b ≡ d
      same (one_text t) h _ = absurd (true≢false h.0)
      same (head_and_tail head tail) h k = ap₂ head_and_tail (sym k.0.1) (sym k.1)
  body_reads false i =
      said one (λ d h. h) (λ d h. h)
      (whole
      (final first_text (λ d h _. first d h) (λ n h. h) (piece_reads s w last i is body false makes_body)
      (λ p _ short _ _. done (Text (place_of p), end (place_of p)) refl (λ h. h) (refl, short.short) (tt, refl) same)))
    where
      one : (d : BodyText) → KeptBody false d → text (first_text d) ≡ body_bytes d
      one (one_text t) h = refl
      one (head_and_tail head tail) h = absurd (false≢true h.0)

      first : (d : BodyText) → KeptBody false d → KeptText false (first_text d)
      first (one_text t) h = any h.1
      first (head_and_tail head tail) h = any h.1

      same : {a : List ℕ} (d : BodyText) → KeptBody false d → Unit {0} × (first_text d ≡ a) → one_text a ≡ d
      same (one_text t) h k = ap one_text (sym k.1)
      same (head_and_tail head tail) h k = absurd (false≢true h.0)

  -- the fields, up to `end`
  abbrev fields_to : ℕ → ℕ → Result Fields ReadFault
  fields_to n i =
      then (head_at w i)
      (λ h. then (counted 8 (decorator_at w) w h.1)
      (λ ds. then (counted 16 (parameter_at w) w ds.1)
      (λ ps. then (body_at w h.0.kind ps.1)
      (λ b. cond (ltb b.1 n) (Err (Spare b.1))
      (Ok (record { head = h.0; decorators = ds.0; parameters = ps.0; body = b.0 }))))))

  fields_to_reads : (i : ℕ) → Reads s last i (Just last) (fields_to last i) (λ _. last) (shown_fields s) rest_bytes KeptFields
  fields_to_reads i =
      let below : (n : ℕ) → Just last n → n ≤ last = λ n h. omega arith in
      whole
      (field (λ m. m.head) (λ m k _. k.head) below (head_reads i)
      (λ h _ kept _. field (λ m. m.decorators) (λ m k _. (k.few_decorators, k.decorators)) below (decorators_reads s w last is 8 h.1)
      (λ ds _ few _. field (λ m. m.parameters) (λ m k _. (k.few_parameters, k.parameters)) below (parameters_reads s w last is 16 ds.1)
      (λ ps _ few' _. closing (λ b. Spare b.1) (λ m. m.body)
      (λ m k h. subst (λ c. KeptBody c m.body) (ap (λ (g : HeadText). is_constructor g.kind) h.0.0.1) k.body)
      (body_reads (is_constructor h.0.kind) ps.1)
      (λ b _ kept' _ at-end. done (record { head = h.0; decorators = ds.0; parameters = ps.0; body = b.0 }) (sym at-end) (λ _. at-end)
      (record {
        head = kept;
        few_decorators = few.0;
        decorators = few.1;
        few_parameters = few'.0;
        parameters = few'.1;
        body = kept';
      })
      ((((tt, refl), refl), refl), refl)
      (λ m _ k ι. record {
        head = sym k.0.0.0.1 ι;
        decorators = sym k.0.0.1 ι;
        parameters = sym k.0.1 ι;
        body = sym k.1 ι;
      }))))))

  pub fields_reads : (i : ℕ) → Reads s last i (Just last) (fields_at w i) (λ _. last) (shown_fields s) rest_bytes KeptFields
  fields_reads i = windowed (λ h. ap (λ n. fields_to n i) (sym (length_window s w last is h))) (fields_to_reads i)
