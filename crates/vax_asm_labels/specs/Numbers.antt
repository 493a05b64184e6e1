-- Numbers that a directive assigns to a name (VAX MACRO and Instruction Set Reference Manual, `.NTYPE` and "Direct assignment statement").
use Rattle.std.specs.Prelude.{ℕ, false, List, [], ◌∷◌, Option, Some, None, Result, Err}
use Rattle.vax_lex.specs.declared.token.Token.{Token}
use Rattle.vax_lex.specs.declared.token.TokenKind.TheVariants.{Number}
use Rattle.vax_macro.specs.declared.error.FaultKind.{FaultKind}
use Rattle.vax_macro.specs.declared.error.FaultKind.TheVariants as fault
use Rattle.vax_asm_first.specs.Standing.{Standing}
use Rattle.vax_asm_first.specs.declared.types.Origin.{Origin}
use Rattle.vax_asm_labels.specs.Naming.{assignment_stated}
use Rattle.vax_asm_statement.specs.Items.{name_alone}

-- a number in the place of a token
abbrev pub number_at : ℕ → Token → Token
number_at n t = record { kind = Number n; start = t.start; end = t.end }

abbrev pub number_by : Origin → List ℕ → ℕ → Option Token → Standing → Result Standing FaultKind
number_by origin line n (Some name) s = (assignment_stated origin line name false (number_at n name ∷ []) s).result
number_by origin line n None s = Err fault.Form

-- an operand that is a name is assigned a number
unfoldable pub number_stated : Origin → List ℕ → List Token → (n : ℕ) → Standing → Result Standing FaultKind
number_stated origin line tokens n s = number_by origin line n (name_alone line tokens) s
