-- The first of faults, by what it is among them (VAX MACRO and Instruction Set Reference Manual, "Diagnostic messages").
use Rattle.std.specs.Prelude.{◌≡◌, ◌≤◌, ◌⊎◌, ℕ, List, [], ◌∷◌, All}
use Rattle.vax_asm_faults.specs.Refusal.{faults_of, module_behind}
use Rattle.vax_asm_faults.specs.Survey.{survey_of}
use Rattle.vax_asm_second.specs.declared.types.Fault.{Fault}
use Rattle.vax_dialect.specs.declared.Dialect.{Dialect}
use Rattle.vax_macro.specs.Fault.{code_of}
use Rattle.vax_module.specs.declared.Module.{Module}

-- no fault stands on an earlier line, or is of a lower kind on the same one
abbrev pub IsUpTo : Fault → Fault → Type 0
IsUpTo f g = (f.origin.place ≤ g.origin.place) × (g.origin.place ≡ f.origin.place → code_of f.kind ≤ code_of g.kind)

-- a line has this fault
abbrev pub HasFault : List Fault → Fault → Type 0
HasFault [] f = ⊥
HasFault (g ∷ faults) f = ((g.origin.place ≡ f.origin.place) × (g.kind ≡ f.kind)) ⊎ HasFault faults f

-- It is one of the faults, on the first line that has any, and of the lowest kind that this has.
pub record IsLeast (faults : List Fault) (f : Fault) : Type 0 where
  pub one : HasFault faults f
  pub least : All (IsUpTo f) faults

-- A source in a dialect has no fault, and this is the module of its statements.
pub record IsFaultless (dialect : Dialect) (source : List ℕ) (m : Module) : Type 0 where
  pub lines : (faults_of dialect source).lines ≡ []
  pub whole : (faults_of dialect source).whole ≡ []
  pub is : module_behind (survey_of dialect source) ≡ m
