-- Each of several processes as its own flat machine's run.
use Rattle.std.specs.Prelude.{ℕ, ◌≡◌, false, Some, List, slice_get}
use Rattle.vax_flat.specs.Step.{Flat}
use Rattle.vax_machine_laws.specs.FlatRun.{IsWholeRun, Reaches, Stage}
use Rattle.vax_jobs.specs.Shared.{Process, goes_on}

-- how far a process is
abbrev pub stage_in : Process → Stage
stage_in p = record { steps = p.steps; place = p.place }

-- each is where its own flat machine's run comes
pub record ReachTheirRuns (starts : List Flat) (processes : List Process) : Type 0 where
  pub each : (job : ℕ) → (start : Flat) → (p : Process) → slice_get starts job ≡ Some start → slice_get processes job ≡ Some p →
      Reaches start (stage_in p)

-- each that doesn't go on is the whole of that run within a limit of steps
pub record EndWhole (limit : ℕ) (starts : List Flat) (processes : List Process) : Type 0 where
  pub each : (job : ℕ) → (start : Flat) → (p : Process) → slice_get starts job ≡ Some start → slice_get processes job ≡ Some p →
      goes_on limit p ≡ false → IsWholeRun limit start (stage_in p)

-- each of them is
pub record AreWhole (limit : ℕ) (starts : List Flat) (processes : List Process) : Type 0 where
  pub each : (job : ℕ) → (start : Flat) → (p : Process) → slice_get starts job ≡ Some start → slice_get processes job ≡ Some p →
      IsWholeRun limit start (stage_in p)
