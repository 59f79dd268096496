-- Decorators and parameters as a sheet has them: a code, and a text.
use Rattle.std.specs.Prelude.{ℕ, ◌+◌, List, Ok}
use Rattle.formats.specs.Readers.{then}
use Rattle.formats.specs.Reading.{end, byte_at}
use Rattle.lists.specs.Listed.{Reader}
use Rattle.pieces.specs.declared.parts.Decorator.{Decorator}
use Rattle.pieces.specs.declared.parts.Parameter.{Parameter}
use Rattle.pieces.specs.Codes.{shape_of, form_of}
use Rattle.pieces.specs.Parts.{piece_at, place_of, decorator, parameter}

abbrev pub decorator_at : List ℕ → Reader Decorator
decorator_at s at =
    then (byte_at s at)
    (λ code. then (shape_of code at)
    (λ shape. then (piece_at s (decorator shape) (at + 1))
    (λ p. Ok (record { shape = shape; text = place_of p }, end (place_of p)))))

abbrev pub parameter_at : List ℕ → Reader Parameter
parameter_at s at =
    then (byte_at s at)
    (λ code. then (form_of code at)
    (λ form. then (piece_at s (parameter form) (at + 1))
    (λ p. Ok (record { form = form; text = place_of p }, end (place_of p)))))
