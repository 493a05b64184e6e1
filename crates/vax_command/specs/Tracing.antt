-- What a traced run comes to, and what it writes.
use Rattle.std.specs.Prelude.{◌≡◌, ◌≤◌, ◌⊎◌, ◌+◌, ℕ, Bool, nat_lt, if◌then◌else◌, false, List, [], length, map, Option, None, Some}
use Rattle.vax_outside.specs.Blocks.{BlockFile}
use Rattle.vax_outside.specs.Channels.{Channels}
use Rattle.vax_flat.specs.Parts.{machine_at}
use Rattle.vax_report.specs.declared.Last.{Last}
use Rattle.vax_report.specs.declared.Last.TheVariants as last
use Rattle.vax_image.specs.Start.{start_areas}
use Rattle.vax_sched.specs.Faults.{Denotes}
use Rattle.vax_sched.specs.declared.rule.Rule.{Rule}
use Rattle.vax_machine.specs.Calling.{Asking}
use Rattle.vax_machine.specs.Paged.{Why, ByEnding, BySteps, ByTurns}
use Rattle.vax_machine.specs.Writing.{both}
use Rattle.vax_machine_laws.specs.FlatRun.{GoesOnFor, Reaches, Stage, stage_of}
use Rattle.vax_watch.specs.Breaks.{stop_at}
use Rattle.vax_watch.specs.Listing.{listing}
use Rattle.vax_watch.specs.Traced.{CallFails, Trace, WrittenIn}
use Rattle.vax_watch.specs.declared.watch.Watch.{Watch}
use Rattle.vax_cli.specs.Tracing.{Tracing}
use Rattle.vax_cli.specs.Words.{Options, Text}
use Rattle.vax_cli.specs.declared.command.DumpItem.{DumpItem}
use Rattle.vax_cli.specs.declared.command.Strictness.TheVariants.{Off}
use Rattle.vax_command.specs.Around.{HasFailed, Outside}
use Rattle.vax_command.specs.Ends.{EndsSo}
use Rattle.vax_command.specs.Loaded.{Loaded}
use Rattle.vax_command.specs.Running.{IsMisplanned, LacksMemory, setup_for}
use Rattle.vax_command.specs.Setup.{Setup, after_turns, before_turns, run_of}
use Rattle.vax_command.specs.Went.{IsRunAnswer, Stop, dumps_at, run_output}
use Rattle.vax_command.specs.declared.status.Status.{Status}
use Rattle.vax_command.specs.declared.status.Status.TheVariants.{Done, PageFault, Turns}

-- what a traced run is given: a run, the addresses before which it stops, the bytes that it watches, and whether it lists the text of each instruction
pub record Traced : Type 0 where
  pub run : Setup
  pub breaks : List ℕ
  pub watches : List Watch
  pub texts : Bool

-- it stops behind so many steps at the latest: at the first break, if that comes below the limit, and else at the limit
abbrev pub stop_of : Traced → ℕ
stop_of s = stop_at s.run.limits.steps s.breaks s.run.start

-- the run up to there, whose turns it makes
abbrev pub up_to_stop : Traced → Setup
up_to_stop s = record s.run { limits = record { steps = stop_of s; turns = s.run.limits.turns; listed = false } }

-- the lines of so many steps
abbrev pub lines_of : Traced → ℕ → Text
lines_of s steps = listing s.texts steps s.run.start s.watches

-- why it stopped, as its report tells it
abbrev pub last_of : Traced → Why → Last
last_of s (ByEnding ending) = last.Ending ending
last_of s BySteps = if nat_lt (stop_of s) s.run.limits.steps then last.Break else last.Steps
last_of s ByTurns = last.Turns

abbrev pub answer_of : Why → Status
answer_of (ByEnding ending) = Done
answer_of BySteps = Done
answer_of ByTurns = Turns

-- the trace from its start, where the page file tells this
abbrev pub trace_at : Traced → Option BlockFile → Trace
trace_at s file = record {
  limits = s.run.limits;
  rules = s.run.rules;
  areas = s.run.areas;
  start = s.run.start;
  from = before_turns s.run;
  file = file;
  breaks = s.breaks;
  watches = s.watches;
  texts = s.texts;
}

-- It stopped by itself: where a run stops that goes up to there. Record has a line for each step, and the report was written. The pages that were
-- made absent and to which an attempt had written were written to their blocks.
pub record IsStopped (s : Traced) (file : BlockFile) (outside : Outside) (status : Status) (grown : Channels) : Type 0 where
  pub stop : Stop (up_to_stop s)
  pub blocks : WrittenIn (trace_at s (Some file)) stop.count outside.pages.after.told
  pub answer : status ≡ answer_of stop.why
  pub wrote : grown ≡ run_output stop.at (lines_of s stop.at.steps) (last_of s stop.why) (dumps_at stop.at s.run.items)

-- it stopped so, and a call of the page file failed while the memory was read that the report was to show
pub record IsUnread (s : Traced) (file : BlockFile) (outside : Outside) (status : Status) (grown : Channels) : Type 0 where
  pub stop : Stop (up_to_stop s)
  pub blocks : WrittenIn (trace_at s (Some file)) stop.count outside.pages.after.told
  pub answer : status ≡ PageFault
  pub wrote : grown ≡ run_output stop.at (lines_of s stop.at.steps) last.PageFault []

-- where so many turns of the run lead
pub record Comes (s : Traced) (at : Stage) (count : ℕ) : Type 0 where
  pub reaches : Reaches s.run.start at
  pub goes : GoesOnFor (up_to_stop s).limits (run_of (up_to_stop s)) count
  pub leads : at ≡ stage_of (after_turns (up_to_stop s) count)

-- A call of the page file failed: the next that a turn makes, or one at the byte of the step that comes or at the watched bytes. Record has a line for each step that was made,
-- but for the last where its watched bytes weren't seen.
pub record IsCut (s : Traced) (file : BlockFile) (outside : Outside) (status : Status) (grown : Channels) : Type 0 where
  pub at : Stage
  pub count : ℕ
  pub comes : Comes s at count
  pub asks : Asking
  pub fails : CallFails (trace_at s (Some file)) count asks outside.pages.after.told
  pub lines : ℕ
  pub all_but : (lines ≡ at.steps) ⊎ ((1 ≤ length s.watches) × (lines + 1 ≡ at.steps))
  pub answer : status ≡ PageFault
  pub wrote : grown ≡ run_output at (lines_of s lines) last.PageFault []

-- a write failed: what was to be written begins with what some turns sent and the lines of some of their steps
pub record IsLost (s : Traced) (status : Status) (grown : Channels) : Type 0 where
  pub at : Stage
  pub count : ℕ
  pub comes : Comes s at count
  pub lines : ℕ
  pub few : lines ≤ at.steps
  pub answer : status ≡ Done
  pub wrote : grown ≡ both (machine_at at.place).output (lines_of s lines)

-- of what it wrote little is said where the page file doesn't tell its contents
abbrev pub WentFrom : Option BlockFile → Outside → Traced → Status → Channels → Type 0
WentFrom None outside s status grown = IsRunAnswer Off (HasFailed outside.pages) status
WentFrom (Some file) outside s status grown =
    IsStopped s file outside status grown
    ⊎ ((HasFailed outside.pages × (IsUnread s file outside status grown ⊎ IsCut s file outside status grown))
    ⊎ (HasFailed outside.sink × IsLost s status grown))

abbrev pub Went : Outside → Traced → Status → Channels → Type 0
Went outside s status grown = WentFrom outside.pages.before.told outside s status grown

-- the bytes of an item of `--watch`
abbrev pub watch_of : DumpItem → Watch
watch_of item = record { address = item.address; count = item.count }

-- what a program's traced run is given
abbrev pub traced_for : Loaded → (input : Text) → List Rule → Tracing → Options → Traced
traced_for program input rules tracing options = record {
  run = record (setup_for program input rules options) { limits = record { steps = options.steps; turns = options.turns; listed = false }; strict = Off };
  breaks = tracing.breaks;
  watches = map watch_of tracing.watches;
  texts = tracing.texts;
}

-- a program was run with its input under a schedule, and its steps were listed
pub record IsTrace (outside : Outside) (program : Loaded) (input schedule : Text) (tracing : Tracing) (options : Options) (status : Status) (grown : Channels) : Type 0 where
  pub rules : List Rule
  pub planned : Denotes (start_areas program.system program.user) schedule rules
  pub went : Went outside (traced_for program input rules tracing options) status grown

abbrev pub TracesSo : Outside → Loaded → (input schedule : Text) → Tracing → Options → Status → Channels → Type 0
TracesSo outside program input schedule tracing options status grown =
    IsMisplanned outside.pages program schedule status grown ⊎ IsTrace outside program input schedule tracing options status grown

-- a traced run went so, or memory was refused before it
abbrev pub IsTracing : Outside → Loaded → (input schedule : Text) → Tracing → Options → Status → Channels → Type 0
IsTracing outside program input schedule tracing options status grown =
    LacksMemory outside.pages status grown ⊎ TracesSo outside program input schedule tracing options status grown

-- and this is its answer
abbrev pub Traces : Outside → Loaded → (input schedule : Text) → Tracing → Options → Status → Type 0
Traces outside program input schedule tracing options result = EndsSo outside.sink (IsTracing outside program input schedule tracing options) result
