-- The fields of a member as a sheet has them.
use Rattle.std.specs.Prelude.{ℕ, ◌+◌, cond, List, length, Ok, Err, Result, nat_lt}
use Rattle.formats.specs.declared.Place.{Place}
use Rattle.formats.specs.declared.ReadFault.{ReadFault}
use Rattle.formats.specs.declared.ReadFault.TheVariants.{Spare}
use Rattle.formats.specs.Readers.{then}
use Rattle.formats.specs.Reading.{end, byte_at}
use Rattle.lists.specs.Listed.{listed, Reader, counted}
use Rattle.pieces.specs.declared.codes.Kind.{Kind}
use Rattle.pieces.specs.declared.parts.Key.{Key}
use Rattle.pieces.specs.declared.parts.Decorator.{Decorator}
use Rattle.pieces.specs.declared.parts.Parameter.{Parameter}
use Rattle.pieces.specs.Codes.{kind_of, flags_of, key_kind_of}
use Rattle.pieces.specs.Parts.{piece_at, place_of, key, body}
use Rattle.pieces.specs.Items.{decorator_at, parameter_at}
use Rattle.pieces.specs.declared.parts.Body.{Body}
use Rattle.pieces.specs.declared.parts.Body.TheVariants.{Text, Constructor}
use Rattle.pieces.specs.declared.fields.Head.{Head}
use Rattle.pieces.specs.declared.fields.Written.{Written}
use Rattle.pieces.specs.Bodies.{is_constructor}

-- the key of a member of the kind `of`
abbrev pub key_at : List ℕ → Kind → Reader Key
key_at s of at =
    then (byte_at s at)
    (λ c. then (key_kind_of c at)
    (λ k. then (piece_at s (key of k) (at + 1))
    (λ p. Ok (record { kind = k; text = place_of p }, end (place_of p)))))

abbrev pub head_at : List ℕ → Reader Head
head_at s at =
    then (byte_at s at)
    (λ a. then (kind_of a at)
    (λ kind. then (byte_at s (at + 1))
    (λ b. then (flags_of b (at + 1))
    (λ flags. then (key_at s kind (at + 2))
    (λ k. Ok (record { kind = kind; flags = flags.0; present = flags.1; key = k.0 }, k.1))))))

-- a text of a value or body, which can be any
abbrev pub body_text_at : List ℕ → Reader Place
body_text_at s at = then (piece_at s body at) (λ p. Ok (place_of p, end (place_of p)))

-- one text, or a constructor's two
abbrev pub body_at : List ℕ → Kind → Reader Body
body_at s kind at =
    then (piece_at s body at)
    (λ p. cond (is_constructor kind)
    (then (piece_at s body (end (place_of p)))
    (λ q. Ok (Constructor (place_of p) (place_of q), end (place_of q))))
    (Ok (Text (place_of p), end (place_of p))))

-- the fields, with lists
pub record Fields : Type 0 where
  pub head : Head
  pub decorators : List Decorator
  pub parameters : List Parameter
  pub body : Body

-- the fields, behind which no byte is left
abbrev pub fields_at : List ℕ → ℕ → Result Fields ReadFault
fields_at s at =
    then (head_at s at)
    (λ h. then (counted 8 (decorator_at s) s h.1)
    (λ ds. then (counted 16 (parameter_at s) s ds.1)
    (λ ps. then (body_at s h.0.kind ps.1)
    (λ b. cond (nat_lt b.1 (length s)) (Err (Spare b.1))
    (Ok (record { head = h.0; decorators = ds.0; parameters = ps.0; body = b.0 }))))))

abbrev pub seen_written : Written → Fields
seen_written w = record { head = w.head; decorators = listed w.decorators; parameters = listed w.parameters; body = w.body }

abbrev pub seen_fields : Result Written ReadFault → Result Fields ReadFault
seen_fields (Ok w) = Ok (seen_written w)
seen_fields (Err e) = Err e
