-- What a sheet describes: a class with its members, each text as its bytes.
use Rattle.std.specs.Prelude.{ℕ, List}
use Rattle.pieces.specs.Described.{MemberText}

-- the superclass is empty in a class that is not derived
pub record ClassText : Type 0 where
  pub name : List ℕ
  pub superclass : List ℕ
  pub members : List MemberText
