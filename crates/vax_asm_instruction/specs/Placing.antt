-- The operands of an instruction, by how they are written (VAX MACRO and Instruction Set Reference Manual, "Addressing modes"; VAX Architecture
-- Reference Manual, operand specifier addressing mode formats).
use Rattle.std.specs.Prelude.{ℕ, ◌+◌, ◌==◌, Bool, true, false, if◌then◌else◌, List, Option, Some, None, Result, Ok, Err}
use Rattle.vax_isa.specs.declared.OperandKind.{OperandKind}
use Rattle.vax_isa.specs.declared.actions.Narrow.{Narrow}
use Rattle.vax_lex.specs.declared.token.Token.{Token}
use Rattle.vax_lex.specs.declared.value.Value.{Value}
use Rattle.vax_lex.specs.declared.value.Value.TheVariants as value
use Rattle.vax_lex.specs.declared.value.ExprError.{ExprError}
use Rattle.vax_asm_encode.specs.declared.operand.Operand.{Operand}
use Rattle.vax_asm_encode.specs.declared.operand.Operand.TheVariants as operand
use Rattle.vax_asm_encode.specs.Operands.{may_stand, takes_branch}
use Rattle.vax_asm_encode.specs.Bytes.{base_width}
use Rattle.vax_asm_statement.specs.declared.modes.Mode.{Mode}
use Rattle.vax_asm_statement.specs.declared.modes.Mode.TheVariants as mode
use Rattle.vax_asm_statement.specs.Modes as modes
use Rattle.vax_asm_statement.specs.Modes.{operand_of}
use Rattle.vax_asm_statement.specs.Sizes.{sized}
use Rattle.vax_asm_instruction.specs.declared.placing.Addressed.{Addressed}

-- An instruction branches to an expression, whatever that looks like: `R1` is a name there.
abbrev pub destination : List Token → modes.Operand
destination tokens = record { mode = mode.Relative None false; expression = tokens; index = None }

-- Where that is enabled, an operand that is an expression alone is absolute: `X` is `@#X`.
abbrev pub mode_under : Bool → Mode → Mode
mode_under absolute (mode.Relative None false) = if absolute then mode.Absolute else mode.Relative None false
mode_under absolute m = m

abbrev pub written_under : Bool → modes.Operand → modes.Operand
written_under absolute o = record o { mode = mode_under absolute o.mode }

-- how an operand of a kind is written
abbrev pub operand_as : Bool → OperandKind → List ℕ → List Token → modes.Operand
operand_as absolute kind line tokens = if takes_branch kind.letter then destination tokens else written_under absolute (operand_of line tokens)

-- The size of a displacement that an operand doesn't say: for a known place of the section the shortest, else the one that holds there.
abbrev pub default_size : Narrow → (section : ℕ) → Result Value ExprError → Option Narrow
default_size size section (Ok (value.Section s offset)) = if s == section then None else Some size
default_size size section (Ok (value.Absolute n)) = Some size
default_size size section (Ok (value.External i offset)) = Some size
default_size size section (Err e) = Some size

abbrev pub mode_by_default : Narrow → (section : ℕ) → Result Value ExprError → Mode → Mode
mode_by_default size section v (mode.Relative None deferred) = mode.Relative (default_size size section v) deferred
mode_by_default size section v m = m

abbrev pub by_default : Narrow → (section : ℕ) → Addressed → Addressed
by_default size section a = record a { mode = mode_by_default size section a.value a.mode }

-- the modes that have an expression
abbrev pub has_expression : Mode → Bool
has_expression mode.Constant = true
has_expression mode.Literal = true
has_expression mode.Immediate = true
has_expression (mode.Register n) = false
has_expression (mode.Deferred n) = false
has_expression (mode.Decrement n) = false
has_expression (mode.Increment n) = false
has_expression (mode.IncrementDeferred n) = false
has_expression (mode.PointerDeferred n) = false
has_expression mode.Absolute = true
has_expression (mode.Displaced size deferred n) = true
has_expression (mode.Relative size deferred) = true

-- the bytes of an operand before its field: the specifier, and the index before that
abbrev pub specifier_length : Option ℕ → ℕ
specifier_length (Some x) = 2
specifier_length None = 1

abbrev pub if_stands : OperandKind → Option Operand → Option Operand
if_stands kind (Some o) = if may_stand kind o then Some o else None
if_stands kind None = None

abbrev pub specified_at : OperandKind → Addressed → (section at : ℕ) → Option Operand
specified_at kind a section at = if_stands kind (sized a.mode a.index section (at + specifier_length a.index) a.value)

-- the operand that begins at a place of a section; none where its form may not stand there
abbrev pub operand_at : OperandKind → Addressed → (section at : ℕ) → Option Operand
operand_at kind a section at = if takes_branch kind.letter then Some operand.Branch else specified_at kind a section at

-- where the field begins of an operand that begins at a place
abbrev pub field_at : Operand → ℕ → ℕ
field_at operand.Branch at = at
field_at (operand.Indexed b x) at = at + 2
field_at operand.Literal at = at + 1
field_at (operand.Register n) at = at + 1
field_at operand.Immediate at = at + 1
field_at (operand.Memory b) at = at + 1

-- the bytes of an operand of a kind
abbrev pub operand_length : OperandKind → Operand → ℕ
operand_length kind operand.Literal = 1
operand_length kind (operand.Register n) = 1
operand_length kind operand.Immediate = 1 + kind.width
operand_length kind (operand.Memory b) = 1 + base_width b
operand_length kind (operand.Indexed b x) = 2 + base_width b
operand_length kind operand.Branch = kind.width
