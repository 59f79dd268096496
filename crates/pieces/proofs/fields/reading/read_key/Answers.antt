use Rattle.std.proofs.Common.{◌+◌, ap, ap₂, ◌∙◌, rules}
use Rattle.formats.specs.Cursors.{bytes_in, placed_in, text_and_next}
use Rattle.formats.specs.Reading.{bytes_of}
use Rattle.pieces.specs.Codes.{key_kind_of}
use Rattle.pieces.specs.Parts.{part, place_of, key}
use Rattle.pieces.proofs.Steps.{code_steps, piece_steps}
use Rattle.pieces.proofs.fields.reading.read_key.Goals as goal

pub returns : goal.returns
returns c =
    let s = bytes_in c.args.cursor.now in
    let at = c.args.cursor.now.at in
    let kind = c.in_ok-kind.kind in
    let t = placed_in c.in_ok-text.text in
    let after = c.read_code.new.cursor.at in
    let piece = part c.in_ok-checked.field-0 in
    let (a, byte, code, next) = code_steps key_kind_of s at kind after c.in_ok-kind.ensures.0 in
    let text = c.in_ok-text.ensures.reads.0 ∙ ap₂ text_and_next (ap bytes_of c.in_ok-kind.ensures.1) next in
    let (is, made, end) = piece_steps (key c.args.of kind) s (at + 1) t c.text.new.self.at piece text c.in_ok-checked.ensures in
    let place = c.place-text.ensures ∙ ap place_of made in
    let sheet = c.in_ok-text.ensures.reads.1 ∙ c.in_ok-kind.ensures.1 in
    search rules
