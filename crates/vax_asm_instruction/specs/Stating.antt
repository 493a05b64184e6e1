-- Instructions as statements (VAX MACRO and Instruction Set Reference Manual, "VAX MACRO source statement format" and "Addressing modes").
use Rattle.std.specs.Prelude.{ℕ, ◌+◌, pos, Bool, true, false, ◌==◌, if◌then◌else◌, List, [], ◌∷◌, length, Option, Some, None, Result, Ok, Err}
use Rattle.vax_dialect.specs.declared.Dialect.{Dialect}
use Rattle.vax_isa.specs.declared.Letter.TheVariants.{Read, Write}
use Rattle.vax_isa.specs.declared.OperandKind.{OperandKind}
use Rattle.vax_isa.specs.Rows.{Plain}
use Rattle.vax_lex.specs.Grammar.{symbols_of}
use Rattle.vax_lex.specs.declared.token.Token.{Token}
use Rattle.vax_lex.specs.declared.value.Value.{Value}
use Rattle.vax_lex.specs.declared.value.Value.TheVariants as value
use Rattle.vax_lex.specs.declared.value.ExprError.{ExprError}
use Rattle.vax_lex.specs.declared.value.ExprError.TheVariants as expr
use Rattle.vax_asm_encode.specs.declared.operand.Operand.{Operand}
use Rattle.vax_asm_encode.specs.declared.operand.Field.{Field}
use Rattle.vax_asm_encode.specs.Operands.{field_of}
use Rattle.vax_asm_sections.specs.Layout.{Bytes, Field as Kept, current_of}
use Rattle.vax_macro.specs.declared.error.FaultKind.{FaultKind}
use Rattle.vax_macro.specs.declared.error.FaultKind.TheVariants as fault
use Rattle.vax_asm_first.specs.Faults.{fault_of_value}
use Rattle.vax_asm_first.specs.Fixups.{Fixup, Filling, Known, filling_by}
use Rattle.vax_asm_first.specs.Progress.{Site, Progress, joined, added, begun, done, site_of}
use Rattle.vax_asm_first.specs.Standing.{Standing, Told, here_at, misplaces, told, with_scope}
use Rattle.vax_asm_first.specs.declared.types.Content.TheVariants as content
use Rattle.vax_asm_first.specs.declared.types.Origin.{Origin}
use Rattle.vax_asm_scope.specs.Scope.{Scope}
use Rattle.vax_asm_statement.specs.Modes as modes
use Rattle.vax_asm_statement.specs.Parts.{parts}
use Rattle.vax_asm_statement.specs.declared.directives.Referring.{Referring}
use Rattle.vax_asm_statement.specs.declared.directives.Referring.TheVariants as referring
use Rattle.vax_asm_instruction.specs.declared.placing.Addressed.{Addressed}
use Rattle.vax_word.specs.Arithmetic.{bytes_of}
use Rattle.vax_word.specs.declared.Size.{Size}
use Rattle.vax_asm_instruction.specs.Placing.{by_default, operand_as, has_expression, operand_at, field_at, operand_length}

-- An operand where it stands: how it is addressed, what its field is filled with, and the names then.
pub record Prepared : Type 0 where
  pub addressed : Addressed
  pub filling : Filling
  pub scope : Scope

-- `.` may not stand in an operand, unless the dialect allows it.
abbrev pub unless_here : Bool → Result Value ExprError → Result Value ExprError
unless_here true v = Err expr.Form
unless_here false v = v

abbrev pub with_told : modes.Operand → Bool → Told → Prepared
with_told o here t = record { addressed = record { mode = o.mode; index = o.index; value = unless_here here t.settled }; filling = filling_by t.value t.written; scope = t.scope }

-- what an operand without an expression has in its place: `@(Rn)` is `@B^0(Rn)`
abbrev pub zero_value : Value
zero_value = value.Absolute (pos 0)

abbrev pub without_expression : modes.Operand → Scope → Prepared
without_expression o s = record { addressed = record { mode = o.mode; index = o.index; value = Ok zero_value }; filling = Known zero_value; scope = s }

abbrev pub prepared : Dialect → Site → modes.Operand → Scope → Prepared
prepared dialect site o s =
    let symbols = symbols_of site.line o.expression in
    if has_expression o.mode then with_told o (misplaces dialect symbols) (told site.dialect site.here symbols s) else without_expression o s

-- The operands so far: where the next one begins, and what they leave.
pub record Reached : Type 0 where
  pub at : ℕ
  pub progress : Progress

abbrev pub refused_by : Standing → FaultKind → Progress
refused_by s kind = record { fault = Some kind; standing = s }

abbrev pub fixup_at : Site → OperandKind → Operand → Filling → (at : ℕ) → Fixup
fixup_at site kind o filling at = record { origin = site.origin; at = at; content = content.Operand kind o; filling = filling }

-- an operand, unless its field can't hold its value
abbrev pub fixed : Site → OperandKind → Operand → Filling → (at : ℕ) → Standing → Option FaultKind → Progress
fixed site kind o filling at s None = added (operand_length kind o) (Kept (fixup_at site kind o filling at)) s
fixed site kind o filling at s (Some k) = refused_by s k

abbrev pub fault_in : Option Field → (section at : ℕ) → Result Value ExprError → Option FaultKind
fault_in (Some f) section at v = fault_of_value f section at v
fault_in None section at v = None

abbrev pub fault_at : OperandKind → Operand → (section at : ℕ) → Addressed → Option FaultKind
fault_at kind o section at a = fault_in (field_of kind o) section (field_at o at) a.value

abbrev pub placed : Site → OperandKind → Prepared → (at : ℕ) → Standing → Option Operand → Reached
placed site kind p at s (Some o) = record { at = at + operand_length kind o; progress = fixed site kind o p.filling at s (fault_at kind o s.sections.current at p.addressed) }
placed site kind p at s None = record { at = at; progress = refused_by s fault.Form }

abbrev pub stands_at : Site → OperandKind → Prepared → (at : ℕ) → Standing → Reached
stands_at site kind p at s = placed site kind p at s (operand_at kind (by_default s.displacement s.sections.current p.addressed) s.sections.current at)

-- the statement, with what `.` is worth in the operand that begins at a place
abbrev pub site_for : Standing → (at : ℕ) → Site → Site
site_for s at site = record { dialect = site.dialect; origin = site.origin; line = site.line; here = here_at s.dialect site.here (value.Section s.sections.current (pos at)) }

-- one operand
abbrev pub operand_stated : Site → OperandKind → List Token → (at : ℕ) → Standing → Reached
operand_stated site kind tokens at s =
    let p = prepared s.dialect (site_for s at site) (operand_as s.absolute kind site.line tokens) s.scope in
    stands_at site kind p at (with_scope p.scope s)

-- one more operand
abbrev pub behind : Option FaultKind → Reached → Reached
behind before r = record { at = r.at; progress = joined before r.progress }

-- Operands one behind another. One that has a fault takes its place nevertheless.
abbrev pub operands_stated : Site → List (List Token) → List OperandKind → Reached → Reached
operands_stated site [] kinds r = r
operands_stated site (o ∷ operands) [] r = r
operands_stated site (o ∷ operands) (kind ∷ kinds) r =
    operands_stated site operands kinds (behind r.progress.fault (operand_stated site kind o r.at r.progress.standing))

-- the opcode
abbrev pub opcode_stated : Plain → Standing → Reached
opcode_stated row s = record { at = (current_of s.sections).size + 1; progress = added 1 (Bytes (row.code ∷ [])) s }

abbrev pub if_counted : Bool → Progress → Result Standing FaultKind
if_counted true p = done p
if_counted false p = Err fault.Count

-- an instruction: its opcode, and behind it as many operands as it has
unfoldable pub instruction_stated : Plain → Origin → List ℕ → List Token → Standing → Result Standing FaultKind
instruction_stated row origin line tokens s =
    if_counted (length (parts tokens) == row.count) (operands_stated (site_of origin line s) (parts tokens) row.operands (opcode_stated row s)).progress

-- ---- `.REF1`, `.REF2`, `.REF4`, `.REF8`, `POPL`

-- the operand of an instruction that reads so many bytes
abbrev pub read_of : Size → OperandKind
read_of size = record { letter = Read; width = bytes_of size }

-- the operand of an instruction that writes a longword
abbrev pub written_longword : OperandKind
written_longword = record { letter = Write; width = 4 }

abbrev pub referred_kind : Referring → OperandKind
referred_kind (referring.Read size) = read_of size
referred_kind referring.Pop = written_longword

-- What stands before the operand: nothing, or of `MOVL (SP)+,dst` the opcode and the first operand, whose mode is 8 and whose register is 14.
abbrev pub front_stated : Referring → Standing → Reached
front_stated (referring.Read size) s = record { at = (current_of s.sections).size; progress = begun s }
front_stated referring.Pop s = record { at = (current_of s.sections).size + 2; progress = added 2 (Bytes (0xD0 ∷ 0x8E ∷ [])) s }

-- that, and the operand behind it
abbrev pub referred : Referring → Site → List Token → Standing → Reached
referred r site one s =
    let front = front_stated r s in
    behind front.progress.fault (operand_stated site (referred_kind r) one front.at front.progress.standing)

abbrev pub reference_by : Referring → Site → List (List Token) → Standing → Result Standing FaultKind
reference_by r site [] s = Err fault.Count
reference_by r site (one ∷ []) s = done (referred r site one s).progress
reference_by r site (one ∷ two ∷ more) s = Err fault.Count

-- one operand, without the name of an instruction before it
unfoldable pub reference_stated : Referring → Origin → List ℕ → List Token → Standing → Result Standing FaultKind
reference_stated r origin line tokens s = reference_by r (site_of origin line s) (parts tokens) s
