-- How far the flat machine's run is from its start, by the flat definitions alone.
use Rattle.std.specs.Prelude.{◌≡◌, ◌<◌, ◌≤◌, ◌⊎◌, ℕ, zero, suc, IsSome, Option, None, Some}
use Rattle.vax_flat.specs.declared.Ending.{Ending}
use Rattle.vax_flat.specs.Parts.{GoesBy, Place, At, machine_at, turn}
use Rattle.vax_flat.specs.Step.{Flat, run}
use Rattle.vax_machine.specs.Laws.{Run, state_at}
use Rattle.vax_machine.specs.Paged.{Paged, Why, ByEnding, BySteps, ByTurns, place_after, steps_after, stops}
use Rattle.vax_machine.specs.declared.event.Limits.{Limits}

-- how far a run is: the steps that were completed, and the place behind them, or within the next one
pub record Stage : Type 0 where
  pub steps : ℕ
  pub place : Place

-- how far a paged run is
abbrev pub stage_of : Paged → Stage
stage_of p = record { steps = p.steps; place = p.place }

-- none of so many turns from the start was stopped
pub record GoesOnFor (limits : Limits) (r : Run) (count : ℕ) : Type 0 where
  pub going : (i : ℕ) → i < count → stops limits.steps limits.turns (state_at r i) ≡ None

-- The flat machine's run from this start comes there: its steps lead to that place, or parts of the next one do, and it hadn't ended before any of them.
pub record Reaches (start : Flat) (s : Stage) : Type 0 where
  pub goes : GoesBy (run s.steps start) s.place
  pub going : (i : ℕ) → i < s.steps → (run i start).ending ≡ None

-- it is the whole run within a limit of steps
pub record IsWholeRun (limit : ℕ) (start : Flat) (s : Stage) : Type 0 where
  pub place : s.place ≡ At (run limit start)
  pub within : s.steps ≤ limit

-- it goes on: the machine hasn't ended, and steps are left
pub record IsUnfinished (limit : ℕ) (s : Stage) : Type 0 where
  pub ending : (machine_at s.place).ending ≡ None
  pub left : s.steps < limit

-- what it is there, by the reason for which it stopped
abbrev pub StopsSo : Why → (limit : ℕ) → Flat → Stage → Type 0
StopsSo (ByEnding e) limit start s = IsWholeRun limit start s × ((run limit start).ending ≡ Some e)
StopsSo BySteps limit start s = IsWholeRun limit start s × ((run limit start).ending ≡ None) × (s.steps ≡ limit)
StopsSo ByTurns limit start s = IsUnfinished limit s

-- the run is over: the machine has ended, or no steps are left
abbrev pub IsOver : ℕ → Stage → Type 0
IsOver limit s = IsSome (machine_at s.place).ending ⊎ (limit ≤ s.steps)

-- one part further, or as before where the machine has ended
abbrev pub next_stage : Option Ending → Stage → Stage
next_stage (Some e) s = s
next_stage None s = record { steps = steps_after (turn s.place) s.steps; place = place_after (turn s.place) }

-- how far the run is after so many parts of its steps
unfoldable pub stage : Flat → ℕ → Stage
stage start zero = record { steps = 0; place = At start }
stage start (suc parts) = next_stage (machine_at (stage start parts).place).ending (stage start parts)
