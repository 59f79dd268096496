-- Whether fields make a member, in the words of what they describe. Assumes nothing.
use Rattle.std.proofs.Common.{◌≡◌, ℕ, ◌≤◌, Bool, true, false, cond, eqb, List, [], ◌∷◌, map, length, is_some, Some, None, Ok, Err, Option, sym, refl, ap, ◌∙◌, subst, ap₂, arith}
use Rattle.std.specs.List.{between}
use Rattle.std.proofs.lemmas.List.Edits.{length-between, between_none}
use Rattle.std.proofs.lemmas.List.{length-map}
use Rattle.std.proofs.lemmas.Bool.{true≢false, eq-eqb, eqb-true, and_from, and_parts}
use Rattle.formats.specs.declared.Place.{Place}
use Rattle.formats.specs.Readers.{then}
use Rattle.formats.specs.Reading.{end, bytes_at}
use Rattle.formats.proofs.Formats.{went, same_ok}
use Rattle.pieces.specs.declared.codes.Kind.{Kind}
use Rattle.pieces.specs.declared.parts.Parameter.{Parameter}
use Rattle.pieces.specs.Bodies.{is_constructor}
use Rattle.pieces.specs.Described.{ParameterText, one_text, head_and_tail}
use Rattle.pieces.specs.Fields.{Fields}
use Rattle.pieces.specs.Kept.{KeptBody, KeptFields}
use Rattle.pieces.specs.Shown.{shown_decorator, shown_parameter, shown_body, shown_fields}
use Rattle.pieces.proofs.Inside.{BodyInside}
use Rattle.pieces.specs.declared.parts.Body.{Body}
use Rattle.pieces.specs.declared.parts.Body.TheVariants.{Text, Constructor}
use Rattle.sheet.specs.declared.refusal.MemberFault.TheVariants.{BrokenRule, SetterParameter}
use Rattle.sheet.specs.Kept.{KeptRules, Blank, outlined}
use Rattle.sheet.specs.Members.{is_blank, body_of, ruled, member_of}
use Rattle.sheet.specs.Rules.{begins_plain, lawful, settable}
use Rattle.sheet.specs.Seen.{Seen, outline}
use Rattle.sheet.specs.Shown.{shown_option, shown_member}

length_bytes : (s : List ℕ) (p : Place) → end p ≤ length s → length (bytes_at s p) ≡ p.length
length_bytes s p h = omega (arith, length-between s p.start (end p) h)

pub no_bytes : (s : List ℕ) (p : Place) → p.length ≡ 0 → bytes_at s p ≡ []
no_bytes s p h =
    let e : end p ≡ p.start = omega arith in
    ap (λ n. between p.start n s) e ∙ between_none s p.start

-- empty texts, as places and as bytes
blank_there : (s : List ℕ) (b : Body) → BodyInside (length s) b → Blank (shown_body s b) → is_blank b ≡ true
blank_there s (Text p) inside none = eq-eqb p.length 0 (sym (length_bytes s p inside) ∙ none)
blank_there s (Constructor head tail) inside none =
    and_from _ _ (eq-eqb head.length 0 (sym (length_bytes s head inside.0) ∙ none.0))
    (eq-eqb tail.length 0 (sym (length_bytes s tail inside.1) ∙ none.1))

blank_back : (s : List ℕ) (kind : Kind) (b : Body) → KeptBody (is_constructor kind) (shown_body s b) → is_blank b ≡ true →
    Blank (shown_body s b) × (shown_option s kind None ≡ shown_body s b)
blank_back s kind (Text p) kept is =
    let none = no_bytes s p (eqb-true p.length 0 is) in (
      ap length none,
      ap (λ c. cond c (head_and_tail [] []) (one_text [])) kept.0 ∙ ap one_text (sym none),
    )
blank_back s kind (Constructor head tail) kept is =
    let both = and_parts (eqb head.length 0) (eqb tail.length 0) is in
    let none = no_bytes s head (eqb-true head.length 0 both.0) in
    let none' = no_bytes s tail (eqb-true tail.length 0 both.1) in (
      (ap length none, ap length none'),
      ap (λ c. cond c (head_and_tail [] []) (one_text [])) kept.0 ∙ ap₂ head_and_tail (sym none) (sym none'),
    )

-- the value or body that is there or not
record Bodied (s : List ℕ) (kind : Kind) (present : Bool) (b : Body) (o : Option Body) : Type 0 where
  is : is_some o ≡ present
  absent : present ≡ false → Blank (shown_body s b)
  shows : shown_option s kind o ≡ shown_body s b

body_there : (s : List ℕ) (present : Bool) (b : Body) (at : ℕ) → BodyInside (length s) b → (present ≡ false → Blank (shown_body s b)) →
    (o : Option Body) × (body_of present b at ≡ Ok o) × (is_some o ≡ present)
body_there s true b at inside absent = (Some b, refl, refl)
body_there s false b at inside absent =
    (None, ap (λ t. cond t (Ok None) (Err (BrokenRule at))) (blank_there s b inside (absent refl)), refl)

body_back : (s : List ℕ) (kind : Kind) (present : Bool) (b : Body) (at : ℕ) (o : Option Body) →
    KeptBody (is_constructor kind) (shown_body s b) → body_of present b at ≡ Ok o → Bodied s kind present b o
body_back s kind true b at o kept e =
    subst (λ o. Bodied s kind true b o) (same_ok e) (record { is = refl; absent = λ h. absurd (true≢false h); shows = refl })
body_back s kind false b at o kept e = by (is_blank b) refl e
  where
    by : (t : Bool) → is_blank b ≡ t → cond t (Ok None) (Err (BrokenRule at)) ≡ Ok o → Bodied s kind false b o
    by true h is =
        let both = blank_back s kind b kept h in
        subst (λ o. Bodied s kind false b o) (same_ok is) (record { is = refl; absent = λ _. both.0; shows = both.1 })
    by false h is = let z : ◌≡◌ {A = ℕ} 0 1 = cc in absurd (omega arith)

abbrev seen_from : Fields → Option Body → Seen
seen_from f body = record {
  kind = f.head.kind;
  flags = f.head.flags;
  key = f.head.key;
  decorators = f.decorators;
  parameters = f.parameters;
  body = body;
}

begins_shown : (s : List ℕ) (ps : List Parameter) →
    begins_plain (λ (p : Parameter). p.form) ps ≡ begins_plain (λ (p : ParameterText). p.form) (map (shown_parameter s) ps)
begins_shown s [] = refl
begins_shown s (p ∷ ps) = refl

-- the rules see the same
outline_shown : (s : List ℕ) (f : Fields) (o : Option Body) → end f.head.key.text ≤ length s → is_some o ≡ f.head.present →
    outline (seen_from f o) ≡ outlined (shown_fields s f)
outline_shown s f o inside is = λ ι. record {
  kind = f.head.kind;
  flags = f.head.flags;
  key_kind = f.head.key.kind;
  key_length = sym (length_bytes s f.head.key.text inside) ι;
  decorators = sym (length-map f.decorators (shown_decorator s)) ι;
  parameters = sym (length-map f.parameters (shown_parameter s)) ι;
  plain_first = begins_shown s f.parameters ι;
  present = is ι;
}

ruled_there : (m : Seen) (at : ℕ) → lawful (outline m) ≡ true → settable (outline m) ≡ true → ruled m at ≡ Ok m
ruled_there m at rules setter =
    ap₂ (λ a b. cond a (cond b (Ok m) (Err (SetterParameter at))) (Err (BrokenRule at))) rules setter

ruled_back : (m : Seen) (at : ℕ) (n : Seen) → ruled m at ≡ Ok n → (lawful (outline m) ≡ true) × (settable (outline m) ≡ true) × (m ≡ n)
ruled_back m at n e = by (lawful (outline m)) (settable (outline m)) refl refl e
  where
    by : (a b : Bool) → lawful (outline m) ≡ a → settable (outline m) ≡ b →
        cond a (cond b (Ok m) (Err (SetterParameter at))) (Err (BrokenRule at)) ≡ Ok n →
        (lawful (outline m) ≡ true) × (settable (outline m) ≡ true) × (m ≡ n)
    by true true p q is = (p, q, same_ok is)
    by true false p q is = let z : ◌≡◌ {A = ℕ} 0 1 = cc in absurd (omega arith)
    by false b p q is = let z : ◌≡◌ {A = ℕ} 0 1 = cc in absurd (omega arith)

-- fields that describe a member which keeps the rules make one
pub member_there : (s : List ℕ) (f : Fields) (at : ℕ) → end f.head.key.text ≤ length s → BodyInside (length s) f.body →
    KeptRules (shown_fields s f) → (m : Seen) × (member_of f at ≡ Ok m)
member_there s f at inside inside' kept =
    let (o, is, there) = body_there s f.head.present f.body at inside' kept.absent in
    let same = outline_shown s f o inside there in (
      seen_from f o,
      ap (λ r. then r (λ body. ruled (seen_from f body) at)) is
          ∙ ruled_there (seen_from f o) at (ap lawful same ∙ kept.rules) (ap settable same ∙ kept.setter),
    )

-- and fields that make a member describe it
pub member_back : (s : List ℕ) (f : Fields) (at : ℕ) (m : Seen) → end f.head.key.text ≤ length s →
    KeptFields (shown_fields s f) → member_of f at ≡ Ok m → KeptRules (shown_fields s f) × (shown_member s m ≡ shown_fields s f)
member_back s f at m inside kept e =
    let (o, is, after) = went (body_of f.head.present f.body at) (λ body. ruled (seen_from f body) at) m e in
    let bodied = body_back s f.head.kind f.head.present f.body at o kept.body is in
    let (rules, setter, made) = ruled_back (seen_from f o) at m after in
    let same = outline_shown s f o inside bodied.is in (
      record {
        fields = kept;
        absent = bodied.absent;
        rules = sym (ap lawful same) ∙ rules;
        setter = sym (ap settable same) ∙ setter;
      },
      ap (shown_member s) (sym made)
          ∙ (λ ι. record {
            head = record {
              kind = f.head.kind;
              flags = f.head.flags;
              present = bodied.is ι;
              key = record { kind = f.head.key.kind; text = bytes_at s f.head.key.text };
            };
            decorators = map (shown_decorator s) f.decorators;
            parameters = map (shown_parameter s) f.parameters;
            body = bodied.shows ι;
          }),
    )
