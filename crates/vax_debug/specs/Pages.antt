-- The pages of a machine that is debugged, and what one attempt at a step makes of them.
use Rattle.std.specs.Prelude.{ℕ, ◌*◌, ◌%◌, ◌^◌, Bool, false, is_some, List, Option, Some, None, if◌then◌else◌}
use Rattle.vax_space.specs.declared.Area.{Area}
use Rattle.vax_flat.specs.declared.Ending.{Ending}
use Rattle.vax_flat.specs.Outcome.{first_missing}
use Rattle.vax_flat.specs.Parts.{At, left_by, touches_at, turn}
use Rattle.vax_flat.specs.Step.{Flat}
use Rattle.vax_pager.specs.Listing.{is_listed}
use Rattle.vax_pager.specs.Meaning.{pages}
use Rattle.vax_machine.specs.declared.engine.Engine.{Engine}
use Rattle.vax_console.specs.Transcript.{Session, stepped}
use Rattle.vax_debug.specs.declared.attempts.Tried.{Tried}
use Rattle.vax_debug.specs.declared.attempts.Tried.TheVariants as tried

-- the areas of a machine's memory, how many of their pages may be resident, and which are: absent pages that still have a frame are kept, and resident ones
-- that were written to since they came in are modified
pub record Pages : Type 0 where
  pub areas : List Area
  pub frames : ℕ
  pub resident : List ℕ
  pub kept : List ℕ
  pub modified : List ℕ

abbrev pub pages_at : Engine → Pages
pages_at m = record {
  areas = (pages m.pager).areas;
  frames = (pages m.pager).frames;
  resident = (pages m.pager).order;
  kept = (pages m.pager).kept;
  modified = (pages m.pager).modified;
}

-- the address of a page's first byte
abbrev pub start_of_page : ℕ → ℕ
start_of_page page = page * 512 % 2 ^ 32

-- one attempt

-- a machine that has ended touches nothing more
abbrev pub unless_ended : Option Ending → Option ℕ → Option ℕ
unless_ended None page = page
unless_ended (Some e) page = None

-- the first page that the step at hand touches and that isn't resident
abbrev pub absent_in : Pages → Flat → Option ℕ
absent_in p m = first_missing (λ page. is_listed page p.resident) (touches_at (At m))

-- what an attempt at the step misses
abbrev pub missed_by : Pages → Session → Option ℕ
missed_by p s = unless_ended s.machine.ending (absent_in p s.machine)

-- the step at hand is a string instruction of which one attempt makes a part
abbrev pub parted_in : Option Ending → Flat → Bool
parted_in None m = is_some (left_by (turn (At m)))
parted_in (Some e) m = false

abbrev pub is_parted : Session → Bool
is_parted s = parted_in s.machine.ending s.machine

-- what is told of an attempt: the page that it missed, or that it made the step, or a part of it
abbrev pub told_of : (missed : Option ℕ) → (parted : Bool) → Tried
told_of None parted = if parted then tried.Parted else tried.Made
told_of (Some page) parted = tried.Missed page

-- where it leads: the step is made, or it is still to be made
abbrev pub attempted : Option ℕ → Session → Session
attempted None s = stepped s
attempted (Some page) s = s
