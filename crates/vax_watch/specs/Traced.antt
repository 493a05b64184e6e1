-- What a traced run comes to.
use Rattle.std.specs.Prelude.{ℕ, suc, Some, ◌≡◌, ◌+◌, ◌<◌, ◌≤◌, ◌⊎◌, Bool, true, false, Option, List, ◌++◌, length}
use Rattle.vax_space.specs.declared.Area.{Area}
use Rattle.vax_outside.specs.declared.faults.Failures.{Failures}
use Rattle.vax_outside.specs.Blocks.{BlockFile}
use Rattle.vax_outside.specs.Channels.{Channels, Grew, GrewByPrefix}
use Rattle.vax_outside.specs.Faults.{CountsFailure}
use Rattle.vax_flat.specs.Parts.{At, GoesBy, machine_at}
use Rattle.vax_flat.specs.Step.{Flat, run}
use Rattle.vax_sched.specs.Due.{due}
use Rattle.vax_sched.specs.declared.rule.Rule.{Rule}
use Rattle.vax_machine.specs.Machine.{Means, keeping}
use Rattle.vax_machine.specs.Blocks.{writes_of}
use Rattle.vax_machine.specs.Calling.{Asking, NextCallFails, asking_of}
use Rattle.vax_machine.specs.Paged.{Eviction, Paged, all_evicted, all_named, paged, stops}
use Rattle.vax_machine.specs.Run.{Runs, System, Tracks, begun, why_of}
use Rattle.vax_machine.specs.Writing.{both}
use Rattle.vax_machine.specs.declared.engine.Engine.{Engine}
use Rattle.vax_machine.specs.declared.event.Limits.{Limits}
use Rattle.vax_machine.specs.declared.event.RunEnd.{RunEnd}
use Rattle.vax_machine.specs.declared.event.RunEnd.TheVariants as run_end
use Rattle.vax_watch.specs.Breaks.{stop_at}
use Rattle.vax_watch.specs.Listing.{listing}
use Rattle.vax_watch.specs.Plans.{breaks_of, watches_of}
use Rattle.vax_watch.specs.declared.watch.Plan.{Plan}
use Rattle.vax_watch.specs.declared.watch.Watch.{Watch}
use Rattle.vax_watch.specs.declared.steps.TraceEnd.{TraceEnd}
use Rattle.vax_watch.specs.declared.steps.TraceEnd.TheVariants.{Ended, Steps, Break, Turns, PageFault, WriteFault}

-- a traced run: how far it may go, what is due at its turns, the areas, the flat machine and the paged run from which it begins, what the page file tells
-- there, the addresses before which it stops, its watches, and whether the text of each instruction is listed
pub record Trace : Type 0 where
  pub limits : Limits
  pub rules : List Rule
  pub areas : List Area
  pub start : Flat
  pub from : Paged
  pub file : Option BlockFile
  pub breaks : List ℕ
  pub watches : List Watch
  pub texts : Bool

-- of a machine that stands for this flat machine
abbrev pub trace_of : Limits → List Rule → Plan → Engine → Option BlockFile → Flat → Trace
trace_of limits rules plan m file start = record {
  limits = limits;
  rules = rules;
  areas = (keeping m).areas;
  start = start;
  from = begun m (At start);
  file = file;
  breaks = breaks_of plan;
  watches = watches_of plan;
  texts = plan.texts;
}

abbrev pub stop_of : Trace → ℕ
stop_of t = stop_at t.limits.steps t.breaks t.start

-- the limits of the run whose turns it makes
abbrev pub limits_of : Trace → Limits
limits_of t = record { steps = stop_of t; turns = t.limits.turns; listed = false }

-- where this run is after so many turns
abbrev pub turns_of : Trace → ℕ → Paged
turns_of t count = paged t.areas (due t.rules) count t.from

-- how this run stops
abbrev pub as_run : TraceEnd → RunEnd
as_run (Ended e) = run_end.Ended e
as_run Steps = run_end.Steps
as_run Break = run_end.Steps
as_run Turns = run_end.Turns
as_run PageFault = run_end.PageFault
as_run WriteFault = run_end.WriteFault

-- `Steps` at the limit alone, and `Break` below it
abbrev pub NamesStop : TraceEnd → (stop limit : ℕ) → Type 0
NamesStop (Ended e) stop limit = Unit {0}
NamesStop Steps stop limit = stop ≡ limit
NamesStop Break stop limit = stop < limit
NamesStop Turns stop limit = Unit {0}
NamesStop PageFault stop limit = Unit {0}
NamesStop WriteFault stop limit = Unit {0}

-- From one paged run to a later one the pages that were made absent and to which an attempt had written were written to their blocks, in order. Blocks are read
-- for services, and to see what lines show.
pub record HasWritten (areas : List Area) (b p : Paged) (before after : BlockFile) : Type 0 where
  pub made : List Eviction
  pub is : p.evictions ≡ b.evictions ++ made
  pub writes : after.writes ≡ before.writes ++ writes_of areas made

-- where the file told its contents before, it does afterwards
abbrev pub Written : List Area → Paged → Paged → Option BlockFile → Option BlockFile → Type 0
Written areas b p before after = (f : BlockFile) → before ≡ Some f → (g : BlockFile) × (after ≡ Some g) × HasWritten areas b p f g

-- behind so many turns it has written so
abbrev pub WrittenIn : Trace → ℕ → Option BlockFile → Type 0
WrittenIn t made file = Written t.areas t.from (turns_of t made) t.file file

-- The call of the file that failed is the next that the turn behind so many makes, and each before it was made. The step of this turn began behind so many turns,
-- where the file told this, and the first of what is due at the turn were made absent.
pub record FailsInTurn (t : Trace) (made : ℕ) (asks : Asking) (file : Option BlockFile) : Type 0 where
  pub goes : Runs (limits_of t) t.areas t.rules t.from (suc made)
  pub first : ℕ
  pub early : first ≤ made
  pub between : Option BlockFile
  pub written : WrittenIn t first between
  pub front : List ℕ
  pub rest : List ℕ
  pub splits : all_named t.areas (due t.rules ((turns_of t made).turns + 1)) ≡ front ++ rest
  pub fails : NextCallFails t.areas (turns_of t first) (all_evicted front (turns_of t made)) rest asks between file

-- or it was to read what a line shows, between two turns
abbrev pub CallFails : Trace → ℕ → Asking → Option BlockFile → Type 0
CallFails t made asks file = FailsInTurn t made asks file ⊎ WrittenIn t made file

-- It stopped as a run does whose limit of steps is where it is to stop. What the steps sent is on Out, and their lines are on Record.
pub record IsTraced (t : Trace) (result : TraceEnd) (old : Option Channels) (new : System) : Type 0 where
  pub named : NamesStop result (stop_of t) t.limits.steps
  pub made : ℕ
  pub goes : Runs (limits_of t) t.areas t.rules t.from made
  pub stopped : stops (stop_of t) t.limits.turns (turns_of t made) ≡ why_of (as_run result)
  pub tracks : Tracks new.machine new.file (turns_of t made)
  pub blocks : WrittenIn t made new.file
  pub sent : List ℕ
  pub output : (machine_at (turns_of t made).place).output ≡ t.start.output ++ sent
  pub wrote : Grew old new.channels (both sent (listing t.texts new.machine.steps t.start t.watches))

-- the last step that was made has no line: behind it, with its turns whole, the bytes of a watch couldn't be read
pub record IsUnseen (t : Trace) (made lines : ℕ) (m : Engine) (file : Option BlockFile) : Type 0 where
  pub watched : 1 ≤ length t.watches
  pub but_one : lines + 1 ≡ m.steps
  pub tracks : Tracks m file (turns_of t made)

-- A call of the page file failed: in a turn of this run, at the byte of the step that comes, or at the watched bytes of the step that was made. The lines
-- are those of all steps that were made, but for the last where its watched bytes weren't seen.
pub record IsCutTrace (t : Trace) (old : Option Channels) (new : System) : Type 0 where
  pub made : ℕ
  pub goes : Runs (limits_of t) t.areas t.rules t.from made
  pub means : Means new.machine new.file (turns_of t made).place
  pub steps : new.machine.steps ≡ (turns_of t made).steps
  pub follows : GoesBy (run new.machine.steps t.start) (turns_of t made).place
  pub fails : CallFails t made (asking_of new.machine) new.file
  pub sent : List ℕ
  pub output : (machine_at (turns_of t made).place).output ≡ t.start.output ++ sent
  pub lines : ℕ
  pub all_but : (lines ≡ new.machine.steps) ⊎ IsUnseen t made lines new.machine new.file
  pub wrote : Grew old new.channels (both sent (listing t.texts lines t.start t.watches))

-- a write failed: a prefix was written of what some turns of this run sent and of the lines of some of their steps
pub record IsLostTrace (t : Trace) (old new : Option Channels) : Type 0 where
  pub made : ℕ
  pub goes : Runs (limits_of t) t.areas t.rules t.from made
  pub sent : List ℕ
  pub output : (machine_at (turns_of t made).place).output ≡ t.start.output ++ sent
  pub lines : ℕ
  pub few : lines ≤ (turns_of t made).steps
  pub wrote : GrewByPrefix old new (both sent (listing t.texts lines t.start t.watches))

abbrev pub Traces : Trace → TraceEnd → Option Channels → System → Type 0
Traces t (Ended e) old new = IsTraced t (Ended e) old new
Traces t Steps old new = IsTraced t Steps old new
Traces t Break old new = IsTraced t Break old new
Traces t Turns old new = IsTraced t Turns old new
Traces t PageFault old new = IsCutTrace t old new
Traces t WriteFault old new = IsLostTrace t old new.channels

-- a call of the page file failed
abbrev pub by_page : TraceEnd → Bool
by_page (Ended e) = false
by_page Steps = false
by_page Break = false
by_page Turns = false
by_page PageFault = true
by_page WriteFault = false

-- a write failed
abbrev pub by_write : TraceEnd → Bool
by_write (Ended e) = false
by_write Steps = false
by_write Break = false
by_write Turns = false
by_write PageFault = false
by_write WriteFault = true

-- what it does to the counts of failures of the page file and of the sink; after a write fault a call of the page file may have failed too
pub record CountsTrace (result : TraceEnd) (file_before file_now sink_before sink_now : Failures) : Type 0 where
  pub failed : Bool
  pub told : by_write result ≡ false → failed ≡ by_page result
  pub file : CountsFailure failed file_before file_now
  pub sink : CountsFailure (by_write result) sink_before sink_now
