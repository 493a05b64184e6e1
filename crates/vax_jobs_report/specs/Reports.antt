-- The reports on several processes.
use Rattle.std.specs.Prelude.{ℕ, ◌+◌, nat_lt, if◌then◌else◌, codes, decimal, List, [], ◌++◌, length, Option, None, Some, slice_get}
use Rattle.std.specs.List.{flat_map, range_with_len}
use Rattle.std.specs.Option.{option_map_or}
use Rattle.vax_flat.specs.declared.Ending.{Ending}
use Rattle.vax_flat.specs.Parts.{machine_at, units_done}
use Rattle.vax_jobs.specs.Shared.{Process}
use Rattle.vax_machine.specs.Meaning.{engine, units_of}
use Rattle.vax_machine.specs.declared.engine.Engine.{Engine}
use Rattle.vax_machine.specs.declared.machine.Machine.{Machine}
use Rattle.vax_report.specs.Report.{report}
use Rattle.vax_report.specs.declared.Last.{Last}
use Rattle.vax_report.specs.declared.Last.TheVariants as last

-- how a process ended, as its report tells it: by its ending or at the limit of its steps, else as all of them did
abbrev pub last_in : ℕ → Last → Option Ending → ℕ → Last
last_in limit other (Some ending) steps = last.Ending ending
last_in limit other None steps = if nat_lt steps limit then other else last.Steps

-- the line of a process, from 0
unfoldable pub job_label : ℕ → List ℕ
job_label job = codes "JOB " ++ decimal (job + 1) ++ codes "\n"

-- the report on a machine that ended so
abbrev pub report_on : Last → Engine → List ℕ
report_on why m = report m.cpu.core why m.steps (units_of m.cpu.latch) m.cpu.term.place []

abbrev pub machine_report : ℕ → Last → Engine → List ℕ
machine_report limit other m = report_on (last_in limit other m.ended m.steps) m

-- the one on a process of flat machines
abbrev pub process_report : ℕ → Last → Process → List ℕ
process_report limit other p =
    report (machine_at p.place).core (last_in limit other (machine_at p.place).ending p.steps) p.steps (units_done p.place) (machine_at p.place).taken []

-- the line of the process with this number, and the report on it
abbrev pub machine_text : ℕ → Last → List Machine → ℕ → List ℕ
machine_text limit other machines job = job_label job ++ option_map_or (λ m. machine_report limit other (engine m)) (slice_get machines job) []

abbrev pub process_text : ℕ → Last → List Process → ℕ → List ℕ
process_text limit other processes job = job_label job ++ option_map_or (process_report limit other) (slice_get processes job) []

-- all of them
unfoldable pub machine_reports : ℕ → Last → List Machine → List ℕ
machine_reports limit other machines = flat_map (machine_text limit other machines) (range_with_len 0 (length machines))

unfoldable pub process_reports : ℕ → Last → List Process → List ℕ
process_reports limit other processes = flat_map (process_text limit other processes) (range_with_len 0 (length processes))
