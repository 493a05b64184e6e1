-- The faults that a module has once all of it is read (VAX MACRO and Instruction Set Reference Manual, "Diagnostic messages").
use Rattle.std.specs.Prelude.{Bool, true, false, ◌&&◌, ◌||◌, ◌==◌, nat_lt, if◌then◌else◌, List, [], ◌∷◌, ◌++◌, Option, Some, None, Result, Ok, Err}
use Rattle.vax_lex.specs.declared.value.Value.{Value}
use Rattle.vax_lex.specs.declared.value.ExprError.{ExprError}
use Rattle.vax_lex.specs.declared.value.ExprError.TheVariants as errors
use Rattle.vax_macro.specs.Fault.{code_of}
use Rattle.vax_macro.specs.Rest.{Opening}
use Rattle.vax_macro.specs.declared.error.FaultKind.{FaultKind}
use Rattle.vax_macro.specs.declared.error.FaultKind.TheVariants as fault
use Rattle.vax_asm_first.specs.Fixups.{Filling, Known, Later, Assignment}
use Rattle.vax_asm_first.specs.declared.types.Origin.{Origin}
use Rattle.vax_asm_values.specs.ToCome.{names_to_come}
use Rattle.vax_asm_values.specs.Values.{Written, Source, worth, value_of}
use Rattle.vax_asm_second.specs.declared.types.Fault.{Fault}

-- One fault goes before another by the place of its statement, and at one place by its kind.
abbrev pub precedes : Fault → Fault → Bool
precedes a b = nat_lt a.origin.place b.origin.place || (a.origin.place == b.origin.place && nat_lt (code_of a.kind) (code_of b.kind))

abbrev pub earlier : Fault → Fault → Fault
earlier a b = if precedes b a then b else a

abbrev pub first : Option Fault → Option Fault → Option Fault
first (Some a) (Some b) = Some (earlier a b)
first (Some a) None = Some a
first None o = o

abbrev pub first_of : List Fault → Option Fault
first_of [] = None
first_of (f ∷ faults) = first (Some f) (first_of faults)

abbrev pub fault_at : Origin → Option FaultKind → List Fault
fault_at origin None = []
fault_at origin (Some kind) = record { origin = origin; kind = kind } ∷ []

-- Why an expression has no value: it is no expression of these values; or a name in it is defined nowhere, as a local label
-- can be. No fault of its own has one that rests on a definition without a value.
abbrev pub unknown : Bool → Option FaultKind
unknown true = Some fault.Undefined
unknown false = None

abbrev pub fault_of_error : List Source → Written → ExprError → Option FaultKind
fault_of_error sources w errors.Form = Some fault.Form
fault_of_error sources w errors.Unknown = unknown (names_to_come sources w)
fault_of_error sources w errors.Range = Some fault.Range

abbrev pub told : List Source → Written → Result Value ExprError → Result Value (Option FaultKind)
told sources w (Ok v) = Ok v
told sources w (Err e) = Err (fault_of_error sources w e)

-- the value of an expression, or its fault
abbrev pub value_in : List Source → Written → Result Value (Option FaultKind)
value_in sources w = told sources w (worth (value_of sources) w)

abbrev pub value_filled : List Source → Filling → Result Value (Option FaultKind)
value_filled sources (Known v) = Ok v
value_filled sources (Later w) = value_in sources w

abbrev pub kind_of : {X : Type 0} → Result X (Option FaultKind) → Option FaultKind
kind_of (Ok x) = None
kind_of (Err kind) = kind

-- assignments
abbrev pub assigned_faults : List Source → List Assignment → List Fault
assigned_faults sources [] = []
assigned_faults sources (a ∷ assignments) = fault_at a.origin (kind_of (value_in sources a.written)) ++ assigned_faults sources assignments

-- a begin without its end
abbrev pub unclosed_faults : Option Opening → List Fault
unclosed_faults None = []
unclosed_faults (Some begin) = record { origin = record { line = begin.number; place = begin.place }; kind = fault.Nesting } ∷ []
