-- Each of several processes, for itself.
use Rattle.std.specs.Prelude.{ℕ, ◌≡◌, List, Some, slice_get}
use Rattle.vax_flat.specs.Parts.{GoesBy}
use Rattle.vax_flat.specs.Step.{Flat, run}
use Rattle.vax_jobs.specs.Shared.{Process, Setting, Shared, begun, shared}

-- a process is where the steps that it counts lead its flat machine, or where parts of the next one do
pub record FollowTheirRuns (starts : List Flat) (processes : List Process) : Type 0 where
  pub each : (job : ℕ) → (start : Flat) → (p : Process) → slice_get starts job ≡ Some start → slice_get processes job ≡ Some p →
      GoesBy (run p.steps start) p.place

-- so many turns from the start
abbrev pub after_turns : Setting → List Flat → ℕ → Shared
after_turns x starts count = shared x count (begun x.order starts)
