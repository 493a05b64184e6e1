-- The types of operands (VAX MACRO and Instruction Set Reference Manual, `.NTYPE`): a register in bits 3 to 0, and a mode in bits 7 to 4.
use Rattle.std.specs.Prelude.{ℕ, ◌+◌, ◌*◌, Bool, if◌then◌else◌, List, Option, Some, None, Result, Ok, Err}
use Rattle.vax_isa.specs.declared.OperandKind.{OperandKind}
use Rattle.vax_isa.specs.declared.actions.Narrow.{Narrow}
use Rattle.vax_isa.specs.declared.actions.Narrow.TheVariants as narrow
use Rattle.vax_lex.specs.declared.token.Token.{Token}
use Rattle.vax_asm_encode.specs.declared.operand.Base.{Base}
use Rattle.vax_asm_encode.specs.declared.operand.Base.TheVariants as base
use Rattle.vax_asm_encode.specs.declared.operand.Operand.{Operand}
use Rattle.vax_asm_encode.specs.declared.operand.Operand.TheVariants as operand
use Rattle.vax_asm_first.specs.Progress.{Counted, Site, site_of}
use Rattle.vax_asm_first.specs.Standing.{Standing}
use Rattle.vax_asm_first.specs.declared.types.Origin.{Origin}
use Rattle.vax_asm_sections.specs.Layout.{current_of}
use Rattle.vax_asm_statement.specs.Modes.{is_general}
use Rattle.vax_asm_instruction.specs.Placing.{by_default, operand_as, operand_at}
use Rattle.vax_asm_instruction.specs.Stating.{Prepared, fault_at, prepared, read_of, site_for}
use Rattle.vax_macro.specs.declared.error.FaultKind.{FaultKind}
use Rattle.vax_macro.specs.declared.error.FaultKind.TheVariants as fault
use Rattle.vax_word.specs.declared.Size.TheVariants as size

abbrev pub with_register : (mode register : ℕ) → ℕ
with_register mode register = 16 * mode + register

-- the mode of a displacement, and that of one that points to the address
abbrev pub displaced_mode : Narrow → ℕ
displaced_mode narrow.B = 10
displaced_mode narrow.W = 12
displaced_mode narrow.L = 14

abbrev pub deferred_mode : Narrow → ℕ
deferred_mode narrow.B = 11
deferred_mode narrow.W = 13
deferred_mode narrow.L = 15

-- Mode 2 is absolute, and 3 general. Both, and what is relative, have PC as their register.
abbrev pub base_type : (general : Bool) → Base → ℕ
base_type general (base.Deferred n) = with_register 6 n
base_type general (base.Decrement n) = with_register 7 n
base_type general (base.Increment n) = with_register 8 n
base_type general (base.IncrementDeferred n) = with_register 9 n
base_type general base.Absolute = with_register 2 15
base_type general (base.Displaced size n) = with_register (displaced_mode size) n
base_type general (base.DisplacedDeferred size n) = with_register (deferred_mode size) n
base_type general (base.Relative size) = with_register (if general then 3 else displaced_mode size) 15
base_type general (base.RelativeDeferred size) = with_register (deferred_mode size) 15

-- Mode 0 is a short literal, 1 immediate, and 5 a register. With an index the low byte has mode 4, and the byte above it the type of the place.
abbrev pub operand_type : (general : Bool) → Operand → ℕ
operand_type general operand.Literal = 0
operand_type general operand.Immediate = with_register 1 15
operand_type general (operand.Register n) = with_register 5 n
operand_type general (operand.Memory b) = base_type general b
operand_type general (operand.Indexed b x) = 256 * base_type general b + with_register 4 x
operand_type general operand.Branch = 0

abbrev pub unless_faulty : Option FaultKind → ℕ → Result ℕ FaultKind
unless_faulty None n = Ok n
unless_faulty (Some kind) n = Err kind

abbrev pub type_of : (general : Bool) → OperandKind → Prepared → (section at : ℕ) → Option Operand → Result ℕ FaultKind
type_of general kind p section at (Some o) = unless_faulty (fault_at kind o section at p.addressed) (operand_type general o)
type_of general kind p section at None = Err fault.Form

-- that of an operand as an instruction has it that reads a longword, where it would begin at the place of the statement
abbrev pub prepared_type : (general : Bool) → OperandKind → Prepared → (at : ℕ) → Standing → Counted
prepared_type general kind p at s = record {
  number = type_of general kind p s.sections.current at (operand_at kind (by_default s.displacement s.sections.current p.addressed) s.sections.current at);
  scope = p.scope;
}

abbrev pub typed : Site → List Token → (at : ℕ) → Standing → Counted
typed site tokens at s =
    prepared_type (is_general site.line tokens) (read_of size.L) (prepared s.dialect (site_for s at site) (operand_as s.absolute (read_of size.L) site.line tokens) s.scope) at s

-- The type of an operand, and the names then; or its fault.
unfoldable pub typed_operand : Origin → List ℕ → List Token → Standing → Counted
typed_operand origin line tokens s = typed (site_of origin line s) tokens (current_of s.sections).size s
