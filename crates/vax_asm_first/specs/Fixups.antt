-- What is filled in once all names have values.
use Rattle.std.specs.Prelude.{ℕ, List, Result, Ok, Err}
use Rattle.vax_lex.specs.declared.value.Value.{Value}
use Rattle.vax_lex.specs.declared.value.ExprError.{ExprError}
use Rattle.vax_asm_first.specs.declared.types.Content.{Content}
use Rattle.vax_asm_first.specs.declared.types.Origin.{Origin}
use Rattle.vax_asm_values.specs.Values.{Written}

-- a value that is known where it stands, or an expression whose names have their values later
pub data Filling : Type 0 where
  Known : Value → Filling
  Later : Written → Filling

-- a part of a section: the statement that it comes from, the place of its first byte, what it is and what it is filled with
pub record Fixup : Type 0 where
  pub origin : Origin
  pub at : ℕ
  pub content : Content
  pub filling : Filling

abbrev pub filling_by : Result Value ExprError → Written → Filling
filling_by (Ok v) w = Known v
filling_by (Err e) w = Later w

-- an assignment that has no value where it stands: the statement that it comes from, the definition that it is, and what is assigned
pub record Assignment : Type 0 where
  pub origin : Origin
  pub definition : ℕ
  pub written : Written

-- the name at which the program begins, and the definition that it means where it stands
pub record Transfer : Type 0 where
  pub name : List ℕ
  pub definition : ℕ
