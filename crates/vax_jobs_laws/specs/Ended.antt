-- Where each of several processes stops, as a run of it alone does.
use Rattle.std.specs.Prelude.{ℕ, ◌≡◌, ◌≢◌, Option, None, Some, List, slice_get}
use Rattle.vax_flat.specs.declared.Ending.{Ending}
use Rattle.vax_flat.specs.Parts.{machine_at}
use Rattle.vax_flat.specs.Step.{Flat}
use Rattle.vax_machine.specs.Paged.{Why, ByEnding, BySteps, ByTurns}
use Rattle.vax_machine_laws.specs.FlatRun.{Reaches, Stage, StopsSo}
use Rattle.vax_jobs.specs.Shared.{Process}
use Rattle.vax_jobs_laws.specs.Whole.{stage_in}

-- why a run stops whose turns are enough: by its ending, or at the limit of steps
abbrev pub why_by : Option Ending → Why
why_by None = BySteps
why_by (Some e) = ByEnding e

-- the end of a run: how far it is, and why it stopped
pub record End : Type 0 where
  pub at : Stage
  pub why : Why

-- that of a process which doesn't go on
abbrev pub end_of : Process → End
end_of p = record { at = stage_in p; why = why_by (machine_at p.place).ending }

-- a run from this start within a limit of steps ends so, where its turns are enough
pub record IsEnd (limit : ℕ) (start : Flat) (e : End) : Type 0 where
  pub reaches : Reaches start e.at
  pub stops : StopsSo e.why limit start e.at
  pub ample : e.why ≢ ByTurns

-- each process has ended as its own run does
pub record HaveEnded (limit : ℕ) (starts : List Flat) (processes : List Process) : Type 0 where
  pub each : (job : ℕ) → (start : Flat) → (p : Process) → slice_get starts job ≡ Some start → slice_get processes job ≡ Some p →
      IsEnd limit start (end_of p)
