-- What the reader accepts is exactly the layout of what it answers, and every layout is read back.
use Rattle.std.specs.Prelude.{◌≡◌, ℕ, List, None, Ok, Err, Result}
use Rattle.sheet.specs.declared.class.Class.{Class}
use Rattle.sheet.specs.declared.refusal.Refusal.{Refusal}
use Rattle.sheet.specs.Classes.{seen_class}
use Rattle.sheet.specs.Described.{ClassText}
use Rattle.sheet.specs.Kept.{KeptClass}
use Rattle.sheet.specs.Layout.{class_bytes}
use Rattle.sheet.specs.Refusals.{refusal_of}
use Rattle.sheet.specs.Shown.{shown_class}

-- the bytes are the layout of the class that is answered, and the class keeps the limits and the rules
abbrev pub AcceptedIsLaidOut : List ℕ → Result Class Refusal → Type 0
AcceptedIsLaidOut s r =
    (c : Class) → r ≡ Ok c → (s ≡ class_bytes (shown_class s (seen_class c))) × KeptClass (shown_class s (seen_class c))

-- the class `d` is answered, unless memory is wanting
abbrev pub AnsweredAs : List ℕ → ClassText → Result Class Refusal → Type 0
AnsweredAs s d (Ok c) = shown_class s (seen_class c) ≡ d
AnsweredAs s d (Err e) = refusal_of e ≡ None

-- bytes that are the layout of a class that keeps the limits and the rules are read as that class
abbrev pub LaidOutIsRead : List ℕ → Result Class Refusal → Type 0
LaidOutIsRead s r = (d : ClassText) → KeptClass d → s ≡ class_bytes d → AnsweredAs s d r
