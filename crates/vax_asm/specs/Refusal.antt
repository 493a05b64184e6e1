-- The fault that a statement has whatever stands before it (VAX MACRO and Instruction Set Reference Manual, "VAX MACRO source statement format").
use Rattle.std.specs.Prelude.{◌≡◌, ℕ, ◌==◌, ◌&&◌, not, if◌then◌else◌, List, length, map, Option, Some, None}
use Rattle.std.specs.List.{list_any}
use Rattle.vax_asm.specs.Placing.{Faulty, directive_named, instruction_named, is_bad, is_listing, placed, token_of}
use Rattle.vax_asm_first.specs.Standing.{Standing}
use Rattle.vax_asm_first.specs.declared.types.Origin.{Origin}
use Rattle.vax_asm_statement.specs.Parts.{parts}
use Rattle.vax_asm_statement.specs.Reading.{Parsed, What, Nothing, Assignment, Operation, Malformed, parsed}
use Rattle.vax_asm_statement.specs.declared.directives.Directive.{Directive}
use Rattle.vax_asm_statement.specs.declared.directives.Directive.TheVariants as directive
use Rattle.vax_asm_statement.specs.declared.reading.Label.{Label}
use Rattle.vax_dialect.specs.declared.Dialect.{Dialect}
use Rattle.vax_isa.specs.Instructions.{Instruction}
use Rattle.vax_isa.specs.Rows.{row_of}
use Rattle.vax_lex.specs.Tokens.{pieces_of, token_text}
use Rattle.vax_lex.specs.declared.token.Piece.{Piece}
use Rattle.vax_lex.specs.declared.token.Token.{Token}
use Rattle.vax_macro.specs.declared.error.FaultKind.{FaultKind}
use Rattle.vax_macro.specs.declared.error.FaultKind.TheVariants as fault

-- An instruction has so many operands; what is neither a directive nor an instruction is no operator.
abbrev pub instruction_refusal : Option Instruction → List Token → Option FaultKind
instruction_refusal (Some i) tokens = if length (parts tokens) == (row_of i).count then None else Some fault.Count
instruction_refusal None tokens = Some fault.UnknownOperator

-- A message that is a fault, unless it stands behind a label, whose fault goes before.
abbrev pub directive_refusal : Option Label → Directive → Option FaultKind
directive_refusal (Some label) d = None
directive_refusal None directive.Error = Some fault.Message
directive_refusal None d = None

abbrev pub operator_refusal : Option Label → Option Directive → (name : List ℕ) → List Token → Option FaultKind
operator_refusal label (Some d) name tokens = directive_refusal label d
operator_refusal label None name tokens = instruction_refusal (instruction_named name) tokens

abbrev pub body_refusal : Dialect → List ℕ → Option Label → What → Option FaultKind
body_refusal dialect line label Nothing = None
body_refusal dialect line label (Assignment name global tokens) = None
body_refusal dialect line label (Operation name tokens) = operator_refusal label (directive_named dialect (token_text line name)) (token_text line name) tokens
body_refusal dialect line label Malformed = Some fault.Form

-- A byte where no token begins goes before all others. The rest of a listing directive's line may hold anything.
abbrev pub refusal_as : Dialect → List ℕ → List Piece → Parsed → Option FaultKind
refusal_as dialect line pieces p =
    if list_any is_bad pieces && not (is_listing dialect line p.what) then Some fault.Token
    else body_refusal dialect line p.label p.what

unfoldable pub refusal : Dialect → List ℕ → Option FaultKind
refusal dialect line = let pieces = pieces_of dialect line in refusal_as dialect line pieces (parsed (map token_of pieces))

-- In this dialect it has this fault wherever it stands, and is no assignment.
abbrev pub IsRefused : Dialect → List ℕ → FaultKind → Type 0
IsRefused dialect line kind = (origin : Origin) (s : Standing) → s.dialect ≡ dialect → placed origin line s ≡ Faulty kind None
