-- Which of a source's faults it is refused for (VAX MACRO and Instruction Set Reference Manual, "Diagnostic messages").
use Rattle.std.specs.Prelude.{◌==◌, if◌then◌else◌, nat_lt, List, [], ◌∷◌, Option, Some, None, ℕ}
use Rattle.vax_asm_faults.specs.Survey.{Survey, survey_of}
use Rattle.vax_asm_first.specs.Faults.{first_of as lower_kind}
use Rattle.vax_asm_second.specs.Faults.{first_of as least}
use Rattle.vax_asm_second.specs.Laid.{laid}
use Rattle.vax_asm_second.specs.Modules.{faults, known_in, module_of}
use Rattle.vax_asm_second.specs.declared.types.Fault.{Fault}
use Rattle.vax_dialect.specs.declared.Dialect.{Dialect}
use Rattle.vax_module.specs.declared.Module.{Module}

-- Of two faults the one of the earlier line; of one line the lower kind.
abbrev pub earlier : Fault → Fault → Fault
earlier f g =
    if nat_lt g.origin.place f.origin.place then g
    else (if g.origin.place == f.origin.place then record f { kind = lower_kind f.kind g.kind } else f)

abbrev pub or_earlier : Option Fault → Fault → Fault
or_earlier None g = g
or_earlier (Some f) g = earlier f g

-- the first line that has a fault, with the lowest of its kinds, or a fault that was found before
abbrev pub first_line : Option Fault → List Fault → Option Fault
first_line found [] = found
first_line found (f ∷ faults) = first_line (Some (or_earlier found f)) faults

-- All faults of a source: those that a line and the lines before it decide, and those that the whole of it decides.
pub record Faults : Type 0 where
  pub lines : List Fault
  pub whole : List Fault

-- what is left of a source that isn't read to its end decides nothing
abbrev pub whole_faults : Survey → List Fault
whole_faults s = elim s.ends [
  | None ↦ []
  | Some begin ↦ faults (known_in s.behind.standing) s.behind.standing.sections.all s.behind.assignments begin
]

abbrev pub faults_in : Survey → Faults
faults_in s = record { lines = s.faults; whole = whole_faults s }

abbrev pub faults_of : Dialect → List ℕ → Faults
faults_of dialect source = faults_in (survey_of dialect source)

abbrev pub or_else : Option Fault → Option Fault → Option Fault
or_else (Some f) other = Some f
or_else None other = other

-- A line's own fault goes before all that the whole source decides.
abbrev pub first_fault : Faults → Option Fault
first_fault f = or_else (first_line None f.lines) (least f.whole)

-- the module of what the statements without a fault leave
abbrev pub module_behind : Survey → Module
module_behind s =
    let k = known_in s.behind.standing in
    let names = s.behind.standing.scope.names.all in
    module_of k (laid k 0 s.behind.standing.sections.all) names s.behind.standing.transfer
