-- What stands before the members of a sheet.
use Rattle.std.specs.Prelude.{ℕ, ◌+◌, cond, List, Some, None, Ok, Err, Option, Result, ◌==◌, nat_le}
use Rattle.formats.specs.declared.Place.{Place}
use Rattle.formats.specs.declared.ReadFault.{ReadFault}
use Rattle.formats.specs.declared.ReadFault.TheVariants.{Version, Unknown, NoName}
use Rattle.formats.specs.Names.{is_name}
use Rattle.formats.specs.Readers.{then}
use Rattle.formats.specs.Reading.{end, byte_at, text_at, bytes_at}
use Rattle.sheet.specs.declared.opening.Opening.{Opening}

-- an empty text is no superclass
abbrev pub superclass_of : Place → Option Place
superclass_of p = cond (p.length == 0) None (Some p)

-- what stands from `at` on, where a sheet begins
abbrev pub opening_from : List ℕ → ℕ → Result (Opening × ℕ) ReadFault
opening_from s at =
    then (byte_at s at)
    (λ version. cond (version == 1)
    (then (text_at s (at + 1))
    (λ name. cond (is_name (bytes_at s name))
    (then (text_at s (end name))
    (λ parent. then (byte_at s (end parent))
    (λ n. cond (nat_le n 64)
    (Ok (record { name = name; superclass = superclass_of parent; count = n }, end parent + 1))
    (Err (Unknown (end parent))))))
    (Err (NoName (at + 1)))))
    (Err Version))

abbrev pub opening_at : List ℕ → Result (Opening × ℕ) ReadFault
opening_at s = opening_from s 0
