-- The texts, decorators and parameters of a member, each with its layout. Assumes nothing.
use Rattle.std.proofs.Common.{◌≡◌, ℕ, ◌+◌, ◌≤◌, Bool, true, false, not, ◌||◌, List, map, length, take, Ok, sym, refl, ap, ◌∙◌, subst, arith, rules}
use Rattle.std.specs.List.{AllByRecursion}
use Rattle.formats.specs.declared.Place.{Place}
use Rattle.formats.specs.declared.ReadFault.TheVariants.{NoName, Unknown}
use Rattle.formats.specs.Bytes.{text, list_of}
use Rattle.formats.specs.Names.{is_name}
use Rattle.formats.specs.Reading.{end, bytes_at, text_at}
use Rattle.formats.proofs.Formats.{Reads, UpTo, went, passed, done, final, guard, whole}
use Rattle.formats.proofs.Parts.{byte, text_reads, text_inside, coded}
use Rattle.formats.proofs.Lists.{list_reads}
use Rattle.formats.proofs.Windows.{bytes_window}
use Rattle.lists.specs.Listed.{counted}
use Rattle.pieces.specs.Codes.{shape_of, shape_code, form_of, form_code}
use Rattle.pieces.specs.Kept.{KeptText, KeptDecorator, KeptParameter}
use Rattle.pieces.specs.Layout.{decorator_bytes, parameter_bytes}
use Rattle.pieces.specs.Shown.{shown_decorator, shown_parameter}
use Rattle.pieces.specs.Items.{decorator_at, parameter_at}
use Rattle.pieces.specs.Parts.{Part, decorator, parameter, place_of, bytes_in, named, checked, piece_at, names_shape, names_form}
use Rattle.pieces.proofs.Inverses.{shapes, forms}

-- a part that is made of a text and its place, and has to be a name or not
pub record Makes (make : List ℕ → Place → Part) (must : Bool) : Type 0 where
  pub place : (t : List ℕ) (p : Place) → place_of (make t p) ≡ p
  pub bytes : (t : List ℕ) (p : Place) → bytes_in (make t p) ≡ t
  pub names : (t : List ℕ) (p : Place) → named (make t p) ≡ must

fine : (must : Bool) (t : List ℕ) → (must ≡ true → is_name t ≡ true) → (not must || is_name t) ≡ true
fine true t h = h refl
fine false t h = refl

fine_named : (must : Bool) (t : List ℕ) → (not must || is_name t) ≡ true → must ≡ true → is_name t ≡ true
fine_named true t h e = h
fine_named false t h e = let z : ◌≡◌ {A = ℕ} 0 1 = cc in absurd (omega arith)

pub piece_reads : (s w : List ℕ) (last i : ℕ) → w ≡ take last s → (make : List ℕ → Place → Part) (must : Bool) → Makes make must →
    Reads s last i (UpTo last) (piece_at w make i) (λ q. end (place_of q)) (λ q. bytes_at s (place_of q)) text (KeptText must)
piece_reads s w last i is make must makes =
    whole
    (final (λ t. t) (λ t k _. k.short) (λ n h. h) (text_reads s w last i is)
    (λ p _ short room _.
    let q = make (bytes_at w p) p in
    let placed = makes.place (bytes_at w p) p in
    let seen : bytes_in q ≡ bytes_at s p = makes.bytes (bytes_at w p) p ∙ bytes_window s w last p is room.left in
    let test : (not (named q) || is_name (bytes_in q)) ≡ (not must || is_name (bytes_at s p)) =
    ap (λ b. not b || is_name (bytes_in q)) (makes.names (bytes_at w p) p) ∙ ap (λ t. not must || is_name t) seen in
    guard (not (named q) || is_name (bytes_in q)) (NoName i)
    (λ t j k laid m. test ∙ fine must (bytes_at s p) (λ e. ap is_name (sym k.1.1) ∙ k.0.named e))
    (λ ok.
    let view : bytes_at s (place_of q) ≡ bytes_at s p = ap (bytes_at s) placed in
    let kept : KeptText must (bytes_at s p) = record { short = short; named = fine_named must (bytes_at s p) (sym test ∙ ok) } in
    done q (ap end placed) (λ h. h) (subst (KeptText must) (sym view) kept) (tt, view) (λ t _ k. view ∙ sym k.1))))

pub piece_inside : (w : List ℕ) (i : ℕ) (make : List ℕ → Place → Part) (must : Bool) → Makes make must → (q : Part) →
    piece_at w make i ≡ Ok q → end (place_of q) ≤ length w
piece_inside w i make must makes q e =
    let (p, is, after) = went (text_at w i) (λ p. checked (make (bytes_at w p) p) i) q e in
    let inside = text_inside w i p is in
    let same = passed _ (NoName i) (make (bytes_at w p) p) q after in
    subst (λ (x : Place). end x ≤ length w) (sym (makes.place (bytes_at w p) p) ∙ ap place_of same) inside

pub makes_decorator : (k : _) → Makes (decorator k) (names_shape k)
makes_decorator k = record { place = λ t p. refl; bytes = λ t p. refl; names = λ t p. refl }

pub makes_parameter : (k : _) → Makes (parameter k) (names_form k)
makes_parameter k = record { place = λ t p. refl; bytes = λ t p. refl; names = λ t p. refl }

module _ (s w : List ℕ) (last : ℕ) (is : w ≡ take last s) where
  decorator_reads : (i : ℕ) →
      Reads s last i (UpTo last) (decorator_at w i) (λ y. y.1) (λ y. shown_decorator s y.0) decorator_bytes KeptDecorator
  decorator_reads i =
      whole
      (coded w is (i + 1) refl (λ a. shape_of a i) shape_code (shapes i) (λ d. d.shape) (λ n h. h)
      (λ shape _. final (λ d. d.text) (λ d k h. subst (λ b. KeptText (names_shape b) d.text) h.1 k) (λ n h. h)
      (piece_reads s w last (i + 1) is (decorator shape) (names_shape shape) (makes_decorator shape))
      (λ q _ kept _ _. done (record { shape = shape; text = place_of q }, end (place_of q)) refl (λ h. h) kept (search rules)
      (λ d _ k. grind arith))))

  parameter_reads : (i : ℕ) →
      Reads s last i (UpTo last) (parameter_at w i) (λ y. y.1) (λ y. shown_parameter s y.0) parameter_bytes KeptParameter
  parameter_reads i =
      whole
      (coded w is (i + 1) refl (λ a. form_of a i) form_code (forms i) (λ d. d.form) (λ n h. h)
      (λ form _. final (λ d. d.text) (λ d k h. subst (λ b. KeptText (names_form b) d.text) h.1 k) (λ n h. h)
      (piece_reads s w last (i + 1) is (parameter form) (names_form form) (makes_parameter form))
      (λ q _ kept _ _. done (record { form = form; text = place_of q }, end (place_of q)) refl (λ h. h) kept (search rules)
      (λ d _ k. grind arith))))

  pub decorators_reads : (most i : ℕ) →
      Reads s last i (UpTo last) (counted most (decorator_at w) w i) (λ y. y.1) (λ y. map (shown_decorator s) y.0)
      (list_of decorator_bytes) (λ ds. (length ds ≤ most) × AllByRecursion KeptDecorator ds)
  decorators_reads most i =
      list_reads s last (decorator_at w) (shown_decorator s) decorator_bytes KeptDecorator decorator_reads most i (Unknown i)
      (byte s w last i (i + 1) is refl)

  pub parameters_reads : (most i : ℕ) →
      Reads s last i (UpTo last) (counted most (parameter_at w) w i) (λ y. y.1) (λ y. map (shown_parameter s) y.0)
      (list_of parameter_bytes) (λ ds. (length ds ≤ most) × AllByRecursion KeptParameter ds)
  parameters_reads most i =
      list_reads s last (parameter_at w) (shown_parameter s) parameter_bytes KeptParameter parameter_reads most i (Unknown i)
      (byte s w last i (i + 1) is refl)
