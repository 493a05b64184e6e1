-- Steps up to a stop, on the flat machine.
use Rattle.std.specs.Prelude.{ℕ, zero, suc, ◌≡◌, ◌<◌, ◌≤◌, ◌==◌, ◌||◌, ◌&&◌, not, nat_le, Bool, true, false, if◌then◌else◌, Option, None, Some, is_some, List, slice_index}
use Rattle.std.specs.List.{filter, list_any}
use Rattle.vax_word.specs.declared.Core.{Core}
use Rattle.vax_flat.specs.Step.{Flat}
use Rattle.vax_console.specs.Transcript.{Session, advanced, stepped}
use Rattle.vax_debug.specs.Watches.{is_changed}
use Rattle.vax_debug.specs.declared.breaks.Goal.{Goal}
use Rattle.vax_debug.specs.declared.watches.Seen.{Seen}

-- where steps stop: before steps at these addresses, where a byte isn't as it was seen, and at a goal
pub record Stops : Type 0 where
  pub breaks : List ℕ
  pub seen : List Seen
  pub goal : Option Goal

abbrev pub stops_at : List ℕ → List Seen → Option Goal → Stops
stops_at breaks seen goal = record { breaks = breaks; seen = seen; goal = goal }

abbrev pub pc_of : Core → ℕ
pc_of core = slice_index core.regs 15

abbrev pub sp_of : Core → ℕ
sp_of core = slice_index core.regs 14

abbrev pub fp_of : Core → ℕ
fp_of core = slice_index core.regs 13

-- all addresses but one
abbrev pub without : ℕ → List ℕ → List ℕ
without address breaks = filter (λ a. not (a == address)) breaks

-- PC is there, and the stack pointer at this least
abbrev pub reaches : Option Goal → Core → Bool
reaches None core = false
reaches (Some goal) core = (pc_of core == goal.address) && nat_le goal.least (sp_of core)

abbrev pub is_stop : Stops → Core → Bool
is_stop stops core = list_any (λ a. a == pc_of core) stops.breaks || reaches stops.goal core

-- it has ended, or is to stop here
abbrev pub halts : Stops → Flat → Bool
halts stops m = (is_some m.ending || is_stop stops m.core) || list_any (is_changed m) stops.seen

abbrev pub has_halted : Stops → Session → Bool
has_halted stops s = halts stops s.machine

-- At most so many steps, up to the first behind which it has ended or is to stop. So the first is made where the session stands at a stop. Where the bytes
-- are those from before the first step, it stops behind the first step that changes one: up to there they are those from before each step.
unfoldable pub travelled : ℕ → Stops → Session → Session
travelled zero stops s = s
travelled (suc count) stops s = if has_halted stops (stepped s) then stepped s else travelled count stops (stepped s)

-- these are the first of the flat machine's steps, up to the first stop
pub record AreFirstSteps (count : ℕ) (stops : Stops) (s t : Session) : Type 0 where
  pub made : ℕ
  pub few : made ≤ count
  pub is : t ≡ advanced made s
  pub going : (k : ℕ) → 1 ≤ k → k < made → has_halted stops (advanced k s) ≡ false
  pub halted : made < count → has_halted stops t ≡ true
