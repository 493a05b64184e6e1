-- How far a run is that goes on within the flat machine's run, by the flat definitions alone.
use Rattle.std.specs.Prelude.{◌≡◌, ◌+◌, ◌*◌, ◌<◌, ◌≤◌, ℕ, zero, suc}
use Rattle.vax_flat.specs.Parts.{machine_at}
use Rattle.vax_flat.specs.Step.{Flat}
use Rattle.vax_sched.specs.Due.{due}
use Rattle.vax_machine.specs.Paged.{Why}
use Rattle.vax_machine.specs.Run.{Runs}
use Rattle.vax_machine_laws.specs.Enough.{pages_due}
use Rattle.vax_machine_laws.specs.FlatRun.{IsOver, Reaches, Stage, StopsSo, next_stage, stage_of}
use Rattle.vax_command.specs.Course.{Course, Halt, halted_at, turned}

-- behind so many steps that were counted before, the steps of the flat machine's run from this start lead to this stage, or parts of the next one do
pub record ReachesOn (first : ℕ) (start : Flat) (s : Stage) : Type 0 where
  pub made : ℕ
  pub steps : s.steps ≡ first + made
  pub reaches : Reaches start (record { steps = made; place = s.place })

-- and where it stopped there within a limit of steps of its own, it is so by the reason for which it did
pub record StopsOn (why : Why) (limit first : ℕ) (start : Flat) (s : Stage) : Type 0 where
  pub made : ℕ
  pub steps : s.steps ≡ first + made
  pub stops : StopsSo why limit start (record { steps = made; place = s.place })

-- Turns that begin within a step of this start, or at it, with so many steps counted before and so many more as their limit, go by the flat machine's run from
-- there. Where one more step at least may be made, they stop as it does.
pub record GoesByFlat (c : Course) (first limit : ℕ) (start : Flat) : Type 0 where
  pub reaches : (count : ℕ) → Runs c.limits c.areas c.rules c.begins count → ReachesOn first start (stage_of (turned c count))
  pub stops : 0 < limit → (h : Halt c) → StopsOn h.why limit first start (halted_at c h)

-- how far the flat machine's run is that goes on from a stage, behind so many parts more
unfoldable pub stage_on : Stage → ℕ → Stage
stage_on s zero = s
stage_on s (suc parts) = next_stage (machine_at (stage_on s parts).place).ending (stage_on s parts)

-- The limit of turns is too low for the run that goes on: whenever this is over behind some parts more, the limit is below 41 for each of them and one for
-- each eviction of a pinned page. These are no more than the pages that the schedule names for these turns.
pub record IsTooLow (c : Course) (count : ℕ) : Type 0 where
  pub few : (parts : ℕ) → IsOver c.limits.steps (stage_on (stage_of c.begins) parts)
      → c.limits.turns < 41 * parts + (turned c count).residence.spoiled
  pub spoiled : (turned c count).residence.spoiled ≤ pages_due c.areas (due c.rules) count
