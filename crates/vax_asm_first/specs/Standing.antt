-- What the statements so far leave, and what an expression is where it stands (VAX MACRO and Instruction Set Reference
-- Manual, "Terms and expressions" and "Location counter").
use Rattle.std.specs.Prelude.{ℕ, pos, Bool, true, false, ◌-◌, ◌&&◌, nat_lt, not, if◌then◌else◌, List, [], ◌∷◌, ◌++◌, length, take, Option, Some, None, Result, Ok, Err}
use Rattle.vax_asm_sections.specs.Layout.{Sections, current_of, is_absolute, place_in, at_first, with_set_back}
use Rattle.vax_asm_sections.specs.declared.types.Refusal.{Refusal}
use Rattle.vax_asm_sections.specs.declared.types.Refusal.TheVariants.{Absolute as Refused_data, Conflict, NoMemory, TooLong}
use Rattle.vax_dialect.specs.Differences.{has_places_in_operands}
use Rattle.vax_dialect.specs.declared.Dialect.{Dialect}
use Rattle.vax_isa.specs.declared.actions.Narrow.{Narrow}
use Rattle.vax_isa.specs.declared.actions.Narrow.TheVariants as narrow
use Rattle.vax_lex.specs.Grammar.{Symbol}
use Rattle.vax_lex.specs.declared.value.Value.{Value}
use Rattle.vax_lex.specs.declared.value.Value.TheVariants as value
use Rattle.vax_lex.specs.declared.value.ExprError.{ExprError}
use Rattle.vax_lex.specs.declared.value.ExprError.TheVariants as errors
use Rattle.vax_macro.specs.declared.error.FaultKind.{FaultKind}
use Rattle.vax_macro.specs.declared.error.FaultKind.TheVariants as fault
use Rattle.vax_asm_first.specs.Fixups.{Fixup, Transfer}
use Rattle.vax_asm_scope.specs.Scope.{Scope, nothing, bound}
use Rattle.vax_asm_scope.specs.Used.{uses_place}
use Rattle.vax_asm_values.specs.Certain.{certain}
use Rattle.vax_asm_values.specs.Values.{Written, worth, value_of}

-- A section that is put aside, by its name, and the block of local labels that is put aside with it, if one is, by its number.
pub record Saved : Type 0 where
  pub section : List ℕ
  pub block : Option ℕ

-- The dialect of the source; the names and their definitions; whether their block of local labels goes on past labels and
-- sections; whether an operand that is an expression alone is absolute; the size of a displacement to what isn't known; the sections;
-- those that are put aside, the last one at the end; and where the program begins, if `.END` has said so.
pub record Standing : Type 0 where
  pub dialect : Dialect
  pub scope : Scope
  pub keeps_block : Bool
  pub absolute : Bool
  pub displacement : Narrow
  pub sections : Sections Fixup
  pub saved : List Saved
  pub transfer : Option Transfer

abbrev pub at_start : Dialect → Standing
at_start dialect = record { dialect = dialect; scope = nothing; keeps_block = false; absolute = false; displacement = narrow.L; sections = at_first; saved = []; transfer = None }

-- where the next statement stands: in an absolute section a number, else a place of the section
abbrev pub here_by : (absolute : Bool) → (section at : ℕ) → Value
here_by true section at = value.Absolute (pos at)
here_by false section at = value.Section section (pos at)

abbrev pub here_in : {F : Type 0} → Sections F → Value
here_in s = here_by (is_absolute (current_of s)) s.current (place_in (current_of s))

-- What `.` is worth in an operand or an item: the place of that, where it may stand there, else the place of the statement.
abbrev pub here_at : Dialect → (statement part : Value) → Value
here_at dialect statement part = if has_places_in_operands dialect then part else statement

-- whether an operand or an item uses `.`, and may not
abbrev pub misplaces : Dialect → List Symbol → Bool
misplaces dialect symbols = uses_place symbols && not (has_places_in_operands dialect)

-- In place of a value that isn't known yet stands the fault that the expression has whatever comes later, if it has one.
abbrev pub unless_certain : Option ExprError → Result Value ExprError → Result Value ExprError
unless_certain fault (Ok v) = Ok v
unless_certain fault (Err errors.Form) = Err errors.Form
unless_certain (Some e) (Err errors.Unknown) = Err e
unless_certain None (Err errors.Unknown) = Err errors.Unknown
unless_certain fault (Err errors.Range) = Err errors.Range

-- An expression where it stands: its symbols with what the names in them mean, its value by what stands before it, and
-- what is settled of that whatever comes later.
pub record Told : Type 0 where
  pub written : Written
  pub value : Result Value ExprError
  pub settled : Result Value ExprError
  pub scope : Scope

abbrev pub written_here : Dialect → Value → List Symbol → Scope → Written
written_here dialect here symbols s = record { dialect = dialect; symbols = symbols; names = (bound here symbols s).names }

abbrev pub told : Dialect → Value → List Symbol → Scope → Told
told dialect here symbols s = record {
  written = written_here dialect here symbols s;
  value = worth (value_of (bound here symbols s).scope.sources) (written_here dialect here symbols s);
  settled = unless_certain (certain (value_of (bound here symbols s).scope.sources) (written_here dialect here symbols s)) (worth (value_of (bound here symbols s).scope.sources) (written_here dialect here symbols s));
  scope = (bound here symbols s).scope;
}

-- The current section is put aside, with its block of local labels where that is wanted. So many are put aside at most.
abbrev pub saved_limit : ℕ
saved_limit = 31

abbrev pub block_of : Bool → Standing → Option ℕ
block_of true s = Some s.scope.names.block
block_of false s = None

abbrev pub put_aside : Bool → Standing → Result Standing FaultKind
put_aside with_block s =
    let context : Saved = record { section = (current_of s.sections).name; block = block_of with_block s } in
    if nat_lt (length s.saved) saved_limit then Ok (record s { saved = s.saved ++ context ∷ [] }) else Err fault.Depth

-- the one that was put aside last, and what stands without it
abbrev pub last_of : List Saved → Option Saved
last_of [] = None
last_of (c ∷ []) = Some c
last_of (c ∷ d ∷ saved) = last_of (d ∷ saved)

abbrev pub without_last : Standing → Standing
without_last s = record s { saved = take (length s.saved - 1) s.saved }

-- the names after a change
abbrev pub with_scope : Scope → Standing → Standing
with_scope scope s = record s { scope = scope }

-- why the sections can't change so
abbrev pub fault_of : Refusal → FaultKind
fault_of Refused_data = fault.Form
fault_of Conflict = fault.Large
fault_of TooLong = fault.Large
fault_of NoMemory = fault.Large

-- the sections after a change; data in a section that only counts is a fault, and so is a section or a module that would be too long
abbrev pub with_sections : Standing → Result (Sections Fixup) Refusal → Result Standing FaultKind
with_sections s (Ok sections) = Ok (record s { sections = sections })
with_sections s (Err refusal) = Err (fault_of refusal)

-- the current section, which is absolute, goes on at a place before
abbrev pub set_back : ℕ → Standing → Standing
set_back to s = record s { sections = with_set_back to s.sections }
