-- `.DEFAULT`: what holds where an operand doesn't say it (VAX MACRO and Instruction Set Reference Manual, this directive).
use Rattle.std.specs.Prelude.{ℕ, Bool, false, if◌then◌else◌, List, Option, Some, None, Result, Ok, Err, codes}
use Rattle.vax_asm_first.specs.Narrow.{Narrow}
use Rattle.vax_asm_first.specs.Narrow.TheVariants as narrow
use Rattle.vax_asm_first.specs.Standing.{Standing}
use Rattle.vax_asm_labels.specs.Naming.{two_alone}
use Rattle.vax_asm_statement.specs.Items.{name_alone}
use Rattle.vax_asm_statement.specs.Parts.{parts}
use Rattle.vax_lex.specs.Characters.{spells}
use Rattle.vax_lex.specs.Tokens.{token_text}
use Rattle.vax_lex.specs.declared.token.Token.{Token}
use Rattle.vax_macro.specs.declared.error.FaultKind.{FaultKind}
use Rattle.vax_macro.specs.declared.error.FaultKind.TheVariants as fault

abbrev pub size_of : List ℕ → Option Narrow
size_of name =
    if spells (codes "BYTE") name then Some narrow.B
    else (if spells (codes "WORD") name then Some narrow.W
    else (if spells (codes "LONG") name then Some narrow.L
    else None))

abbrev pub size_at : List ℕ → Option Token → Option Narrow
size_at line (Some t) = size_of (token_text line t)
size_at line None = None

abbrev pub is_displacement : List ℕ → Option Token → Bool
is_displacement line (Some t) = spells (codes "DISPLACEMENT") (token_text line t)
is_displacement line None = false

-- the size that the two operands say
abbrev pub default_at : List ℕ → (name size : List Token) → Option Narrow
default_at line name size = if is_displacement line (name_alone line name) then size_at line (name_alone line size) else None

abbrev pub displaced_by : Option Narrow → Standing → Result Standing FaultKind
displaced_by (Some size) s = Ok (record s { displacement = size })
displaced_by None s = Err fault.Form

-- `.DEFAULT DISPLACEMENT,size`
unfoldable pub default_stated : List ℕ → List Token → Standing → Result Standing FaultKind
default_stated line tokens s = two_alone (parts tokens) (λ name size. displaced_by (default_at line name size) s)
