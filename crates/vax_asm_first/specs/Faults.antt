-- The faults of a statement that it and what stands before it decide (VAX MACRO and Instruction Set Reference Manual,
-- "VAX MACRO assembler directives" and "Diagnostic messages").
use Rattle.std.specs.Prelude.{ℕ, pos, negsuc, Bool, true, false, nat_lt, if◌then◌else◌, Option, Some, None, Result, Ok, Err}
use Rattle.vax_asm_encode.specs.Fields.{filled}
use Rattle.vax_asm_encode.specs.declared.filling.Filled.{Filled}
use Rattle.vax_asm_encode.specs.declared.filling.FieldFault.{FieldFault}
use Rattle.vax_asm_encode.specs.declared.filling.FieldFault.TheVariants as field_fault
use Rattle.vax_asm_encode.specs.declared.operand.Field.{Field}
use Rattle.vax_lex.specs.declared.value.Value.{Value}
use Rattle.vax_lex.specs.declared.value.Value.TheVariants as value
use Rattle.vax_lex.specs.declared.value.ExprError.{ExprError}
use Rattle.vax_lex.specs.declared.value.ExprError.TheVariants as errors
use Rattle.vax_macro.specs.Fault.{code_of}
use Rattle.vax_macro.specs.declared.error.FaultKind.{FaultKind}
use Rattle.vax_macro.specs.declared.error.FaultKind.TheVariants as fault

-- Of two faults the first in the order of the kinds.
abbrev pub first_of : FaultKind → FaultKind → FaultKind
first_of a b = if nat_lt (code_of b) (code_of a) then b else a

abbrev pub lowest : Option FaultKind → Option FaultKind → Option FaultKind
lowest (Some a) (Some b) = Some (first_of a b)
lowest (Some a) None = Some a
lowest None o = o

abbrev pub fault_of_filled : Result Filled FieldFault → Option FaultKind
fault_of_filled (Ok f) = None
fault_of_filled (Err field_fault.Form) = Some fault.Form
fault_of_filled (Err field_fault.Range) = Some fault.Range

-- A value that a field at a place of a section is to hold. It may be known later.
abbrev pub fault_of_value : Field → (section at : ℕ) → Result Value ExprError → Option FaultKind
fault_of_value f section at (Ok v) = fault_of_filled (filled f section at v)
fault_of_value f section at (Err errors.Form) = Some fault.Form
fault_of_value f section at (Err errors.Unknown) = None
fault_of_value f section at (Err errors.Range) = Some fault.Range

-- Where `.` may not stand.
abbrev pub unless_place : Bool → Option FaultKind → Option FaultKind
unless_place true other = Some fault.Form
unless_place false other = other

-- A number that must be known: the count of items, of bytes to leave out, or of a boundary.
abbrev pub number_of : Result Value ExprError → Result ℕ FaultKind
number_of (Ok (value.Absolute (pos n))) = Ok n
number_of (Ok (value.Absolute (negsuc n))) = Err fault.Range
number_of (Ok (value.Section s offset)) = Err fault.Form
number_of (Ok (value.External i offset)) = Err fault.Form
number_of (Err errors.Form) = Err fault.Form
number_of (Err errors.Unknown) = Err fault.Undefined
number_of (Err errors.Range) = Err fault.Range
