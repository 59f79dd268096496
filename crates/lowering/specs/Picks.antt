-- Which members' names are wanted.
use Rattle.std.specs.Prelude.{Bool, true, false, not}
use Rattle.rules.specs.declared.forming.MadeForm.{MadeForm}
use Rattle.rules.specs.declared.forming.MadeForm.TheVariants.{AsWritten, Initialized, Stored, StoredDecorated, Called}
use Rattle.rules.specs.Walks.{Item}
use Rattle.lowering.specs.Groups.{grouped}
use Rattle.lowering.specs.declared.naming.Pick.{Pick}
use Rattle.lowering.specs.declared.naming.Pick.TheVariants.{Group, Second, Third}

-- walk 3 makes these forms, and walk 2 all others that have names
abbrev pub third : MadeForm → Bool
third AsWritten = false
third (Initialized _ _) = true
third (Stored _ _ _) = false
third (StoredDecorated _ _ _ _ _) = false
third (Called _) = false

abbrev pub wanted : Pick → Item → Bool
wanted (Group group) = grouped group
wanted Second = λ i. not (third i.form)
wanted Third = λ i. third i.form
