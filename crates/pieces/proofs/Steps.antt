-- What is known once a code or a text was read. Assumes nothing.
use Rattle.std.proofs.Common.{◌≡◌, ℕ, ◌+◌, List, Ok, Result, sym, ap, ◌∙◌}
use Rattle.formats.specs.declared.Place.{Place}
use Rattle.formats.specs.declared.ReadFault.{ReadFault}
use Rattle.formats.specs.declared.ReadFault.TheVariants.{NoName}
use Rattle.formats.specs.Cursors.{Placed, text_and_next}
use Rattle.formats.specs.Readers.{then}
use Rattle.formats.specs.Reading.{end, byte_at, text_at, bytes_at}
use Rattle.formats.proofs.Formats.{went, same_ok, passed}
use Rattle.pieces.specs.Codes.{code_and_next}
use Rattle.pieces.specs.Parts.{Part, checked, piece_at}

pub code_steps : {K : Type 0} (of : ℕ → ℕ → Result K ReadFault) (s : List ℕ) (at : ℕ) (k : K) (next : ℕ) →
    Ok (k, next) ≡ code_and_next of s at →
    (a : ℕ) × (byte_at s at ≡ Ok a) × (of a at ≡ Ok k) × (next ≡ at + 1)
code_steps of s at k next e =
    let (a, is, e1) = went (byte_at s at) _ (k, next) (sym e) in
    let (l, is', e2) = went (of a at) _ (k, next) e1 in
    let same = same_ok e2 in
    (a, is, is' ∙ ap (λ (x : _ × ℕ). Ok x.0) same, sym (ap (λ (x : _ × ℕ). x.1) same))

pub piece_steps : (make : List ℕ → Place → Part) (s : List ℕ) (at : ℕ) (t : Placed) (next : ℕ) (q : Part) →
    Ok (t, next) ≡ text_and_next s at → Ok q ≡ checked (make t.bytes t.place) t.at →
    (piece_at s make at ≡ Ok q) × (q ≡ make t.bytes t.place) × (next ≡ end t.place)
piece_steps make s at t next q e fine =
    let (p, is, e1) = went (text_at s at) _ (t, next) (sym e) in
    let same = same_ok e1 in
    let here = ap (λ (x : Placed × ℕ). x.0) same in (
      ap (λ r. then r (λ p. checked (make (bytes_at s p) p) at)) is
          ∙ (ap (λ (x : Placed). checked (make x.bytes x.place) x.at) here ∙ sym fine),
      sym (passed _ (NoName t.at) (make t.bytes t.place) q (sym fine)),
      sym (ap (λ (x : Placed × ℕ). x.1) same) ∙ ap (λ (x : Placed). end x.place) here,
    )
