-- How a run goes, by the flat machine's run and by the turns of its paged run, and what it writes.
use Rattle.std.specs.Prelude.{◌≡◌, ◌+◌, ◌*◌, ◌<◌, ◌≤◌, ◌⊎◌, ℕ, suc, false, List, [], ◌++◌, map, Option, None, Some}
use Rattle.vax_space.specs.declared.Area.{Area}
use Rattle.vax_outside.specs.Blocks.{BlockFile}
use Rattle.vax_outside.specs.Channels.{Channels, only, append, unsaved}
use Rattle.vax_outside.specs.declared.traits.Chan.TheVariants as channel
use Rattle.vax_flat.specs.Parts.{machine_at, units_done}
use Rattle.vax_report.specs.Report.{report}
use Rattle.vax_report.specs.declared.Dump.{Dump}
use Rattle.vax_report.specs.declared.Last.{Last}
use Rattle.vax_report.specs.declared.Last.TheVariants as last
use Rattle.vax_sched.specs.Due.{due}
use Rattle.vax_machine.specs.Calling.{Asking, NextCallFails}
use Rattle.vax_machine.specs.Console.{memory_from}
use Rattle.vax_machine.specs.Paged.{Paged, Why, ByEnding, BySteps, ByTurns, all_evicted, all_named, stops}
use Rattle.vax_machine.specs.Writing.{both, lines_of}
use Rattle.vax_machine.specs.declared.event.Limits.{Limits}
use Rattle.vax_machine_laws.specs.Enough.{pages_due}
use Rattle.vax_machine_laws.specs.FlatRun.{GoesOnFor, IsOver, IsUnfinished, Reaches, Stage, StopsSo, stage, stage_of}
use Rattle.vax_cli.specs.Words.{Options, Text}
use Rattle.vax_cli.specs.declared.command.DumpItem.{DumpItem}
use Rattle.vax_cli.specs.declared.command.Strictness.{Strictness}
use Rattle.vax_cli.specs.declared.command.Strictness.TheVariants.{Off, Success}
use Rattle.vax_command.specs.Answer.{status_of}
use Rattle.vax_command.specs.Around.{HasFailed, Outside}
use Rattle.vax_command.specs.Pages.{HasRun, RunsOrLoses}
use Rattle.vax_command.specs.Setup.{Setup, after_turns, before_turns, run_of}
use Rattle.vax_command.specs.declared.status.Status.{Status}
use Rattle.vax_command.specs.declared.status.Status.TheVariants.{Done, Usage, Missing, Large, Refused, Macros, Link, Schedule, Image, Turns, PageFault, ReadFault, WriteFault, NoMemory, Saved, Order, NotHalted, Unsuccessful, Unfinished, LineFault, Told}

abbrev pub limits_of : Options → Limits
limits_of options = record { steps = options.steps; turns = options.turns; listed = options.recorded }

-- the bytes of memory that an item of `--dump` asks for
abbrev pub shown : List Area → DumpItem → Dump
shown memory item = record { addr = item.address; bytes = memory_from memory item.address item.count }

-- those that all items ask for, of the memory of a machine
unfoldable pub dumps_at : Stage → List DumpItem → List Dump
dumps_at s items = map (shown (machine_at s.place).memory) items

-- the report on a machine
unfoldable pub run_report : Stage → Last → List Dump → Text
run_report s why dumps = report (machine_at s.place).core why s.steps (units_done s.place) (machine_at s.place).taken dumps

-- what a run has written in the end: the guest's output, the lines of the evictions that are listed, and the report
unfoldable pub run_output : Stage → (recorded : Text) → Last → List Dump → Channels
run_output s recorded why dumps = append (both (machine_at s.place).output recorded) (only channel.Report (run_report s why dumps))

-- the lines of the evictions of a paged run, where they are to be listed
abbrev pub recorded : Setup → Paged → Text
recorded setup p = lines_of setup.limits.listed p.evictions

-- why a run stopped, as its report tells it
abbrev pub last_of : Why → Last
last_of (ByEnding ending) = last.Ending ending
last_of BySteps = last.Steps
last_of ByTurns = last.Turns

-- The limit of turns is too low for the flat machine's run: whenever this is over after some parts, the limit is below 41 for each of them and one for
-- each eviction of a pinned page. These are no more than the pages that the schedule names for these turns.
pub record IsTooLow (setup : Setup) (count : ℕ) : Type 0 where
  pub few : (parts : ℕ) → IsOver setup.limits.steps (stage setup.start parts)
      → setup.limits.turns < 41 * parts + (after_turns setup count).residence.spoiled
  pub spoiled : (after_turns setup count).residence.spoiled ≤ pages_due setup.areas (due setup.rules) count

-- A run stopped by itself. First where it is in the flat machine's run from its start: by an ending or at the limit of steps it is the whole of it.
-- Then by the turns of its paged run: it stopped there first, and the limit of turns stops it only where it is too low.
pub record Stop (setup : Setup) : Type 0 where
  pub at : Stage
  pub why : Why
  pub reaches : Reaches setup.start at
  pub whole : StopsSo why setup.limits.steps setup.start at
  pub count : ℕ
  pub leads : at ≡ stage_of (after_turns setup count)
  pub goes : GoesOnFor setup.limits (run_of setup) count
  pub stopped : stops setup.limits.steps setup.limits.turns (after_turns setup count) ≡ Some why
  pub short : why ≡ ByTurns → IsTooLow setup count

-- it stopped so, and the report on it was written
pub record IsStopped (setup : Setup) (file : BlockFile) (outside : Outside) (status : Status) (grown : Channels) : Type 0 where
  pub stop : Stop setup
  pub answer : status ≡ status_of setup.strict (machine_at stop.at.place).core stop.why
  pub wrote : grown ≡ run_output stop.at (recorded setup (after_turns setup stop.count)) (last_of stop.why) (dumps_at stop.at setup.items)
  pub blocks : RunsOrLoses setup stop.count file outside

-- it stopped so, and a call of the page file failed while the memory was read that the report was to show
pub record IsUnread (setup : Setup) (file : BlockFile) (outside : Outside) (status : Status) (grown : Channels) : Type 0 where
  pub stop : Stop setup
  pub answer : status ≡ PageFault
  pub wrote : grown ≡ run_output stop.at (recorded setup (after_turns setup stop.count)) last.PageFault []
  pub blocks : HasRun setup stop.count file outside.pages.after.told

-- A call of the page file failed in the turn behind so many, when the first of what was due had been made absent. It is the next call that this turn
-- makes, and each before it was made. The flat machine's run wasn't over, and is where these turns lead.
pub record IsCut (setup : Setup) (file : BlockFile) (outside : Outside) (status : Status) (grown : Channels) : Type 0 where
  pub at : Stage
  pub reaches : Reaches setup.start at
  pub unfinished : IsUnfinished setup.limits.steps at
  pub count : ℕ
  pub leads : at ≡ stage_of (after_turns setup count)
  pub goes : GoesOnFor setup.limits (run_of setup) (suc count)
  pub front : List ℕ
  pub rest : List ℕ
  pub splits : all_named setup.areas (due setup.rules ((after_turns setup count).turns + 1)) ≡ front ++ rest
  pub asks : Asking
  pub fails : NextCallFails setup.areas (before_turns setup) (all_evicted front (after_turns setup count)) rest asks (Some file) outside.pages.after.told
  pub answer : status ≡ PageFault
  pub wrote : grown ≡ run_output at (recorded setup (all_evicted front (after_turns setup count))) last.PageFault []

-- an answer of a run, of whose end the answer is to tell so much
abbrev pub IsRunAnswer : Strictness → Type 0 → Status → Type 0
IsRunAnswer strict failed Done = Unit {0}
IsRunAnswer strict failed Usage = ⊥
IsRunAnswer strict failed (Missing name) = ⊥
IsRunAnswer strict failed (Large name) = ⊥
IsRunAnswer strict failed (Refused file line kind) = ⊥
IsRunAnswer strict failed (Macros file line kind) = ⊥
IsRunAnswer strict failed (Link kind name place) = ⊥
IsRunAnswer strict failed (Schedule line kind) = ⊥
IsRunAnswer strict failed (Image place kind) = ⊥
IsRunAnswer strict failed Turns = Unit {0}
IsRunAnswer strict failed PageFault = failed
IsRunAnswer strict failed ReadFault = ⊥
IsRunAnswer strict failed WriteFault = ⊥
IsRunAnswer strict failed NoMemory = ⊥
IsRunAnswer strict failed (Saved place kind) = ⊥
IsRunAnswer strict failed (Order line kind) = ⊥
IsRunAnswer strict failed (Told which) = ⊥
IsRunAnswer strict failed NotHalted = strict ≡ Off → ⊥
IsRunAnswer strict failed Unsuccessful = strict ≡ Success
IsRunAnswer strict failed Unfinished = ⊥
IsRunAnswer strict failed LineFault = ⊥

-- an answer of a run whose page file doesn't tell its contents; Record is empty where evictions aren't to be listed, and no state was saved
pub record IsUntold (setup : Setup) (outside : Outside) (status : Status) (grown : Channels) : Type 0 where
  pub answer : IsRunAnswer setup.strict (HasFailed outside.pages) status
  pub unlisted : setup.limits.listed ≡ false → grown.recorded ≡ []
  pub unsaved : grown.saved ≡ unsaved

-- It stopped by itself, or a call of the page file failed; of what it wrote little is said where the page file doesn't tell its contents.

abbrev pub WentFrom : Option BlockFile → Outside → Setup → Status → Channels → Type 0
WentFrom None outside setup status grown = IsUntold setup outside status grown
WentFrom (Some file) outside setup status grown =
    IsStopped setup file outside status grown
    ⊎ (HasFailed outside.pages × (IsUnread setup file outside status grown ⊎ IsCut setup file outside status grown))

abbrev pub Went : Outside → Setup → Status → Channels → Type 0
Went outside setup status grown = WentFrom outside.pages.before.told outside setup status grown
