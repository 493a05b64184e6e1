-- A traced run on its way.
use Rattle.std.specs.Prelude.{ℕ, ◌≡◌, ◌+◌, ◌<◌, ◌≤◌, ◌⊎◌, Bool, true, false, Option, Some, None, Result, Ok, Err, List, ◌++◌, length}
use Rattle.vax_outside.specs.declared.faults.Failures.{Failures}
use Rattle.vax_outside.specs.Channels.{Channels, Grew, GrewByPrefix, only}
use Rattle.vax_outside.specs.Faults.{CountsFailure}
use Rattle.vax_outside.specs.declared.traits.Chan.TheVariants.{Record}
use Rattle.vax_flat.specs.declared.Ending.{Ending}
use Rattle.vax_flat.specs.Parts.{At, machine_at}
use Rattle.vax_flat.specs.Step.{run}
use Rattle.vax_pager.specs.Meaning.{pages}
use Rattle.vax_sched.specs.declared.rule.Rule.{Rule}
use Rattle.vax_machine.specs.Calling.{asking_of}
use Rattle.vax_machine.specs.Console.{IsBetween}
use Rattle.vax_machine.specs.Machine.{Means}
use Rattle.vax_machine.specs.Paged.{stops}
use Rattle.vax_machine.specs.Run.{Runs, System, Tracks, why_of}
use Rattle.vax_machine.specs.Writing.{both, held_in}
use Rattle.vax_machine.specs.declared.event.Limits.{Limits}
use Rattle.vax_machine.specs.declared.held.Held.{Held}
use Rattle.vax_watch.specs.Breaks.{is_break}
use Rattle.vax_watch.specs.Listing.{listing}
use Rattle.vax_watch.specs.Plans.{Asked, all_watched, latest_in, watches_in}
use Rattle.vax_watch.specs.Traced.{CallFails, IsLostTrace, IsUnseen, NamesStop, Trace, WrittenIn, as_run, by_page, by_write, limits_of, stop_of, turns_of}
use Rattle.vax_watch.specs.declared.watch.Plan.{Plan}
use Rattle.vax_watch.specs.declared.watch.Seen.{Seen}
use Rattle.vax_watch.specs.declared.steps.Notes.{Notes}
use Rattle.vax_watch.specs.declared.steps.TraceEnd.{TraceEnd}
use Rattle.vax_watch.specs.declared.steps.TraceEnd.TheVariants.{Ended, Steps, Break, Turns, PageFault, WriteFault}

-- lines on their way were passed on: so many bytes were written, and these are left
pub record PassedOn (old new : Option Channels) (lines left : List ℕ) : Type 0 where
  pub sent : List ℕ
  pub is : sent ++ left ≡ lines
  pub wrote : Grew old new (only Record sent)

-- no line was added for a step, as the bytes of a watch couldn't be read
pub record IsUnlisted (old new : List ℕ) (seen : List Seen) : Type 0 where
  pub same : new ≡ old
  pub watched : 1 ≤ length seen

-- why a traced run stops between two steps, if it does
abbrev pub stopped_by : Option Ending → (at_limit at_break : Bool) → Option TraceEnd
stopped_by (Some e) at_limit at_break = Some (Ended e)
stopped_by None true at_break = Some Steps
stopped_by None false true = Some Break
stopped_by None false false = None

-- where a traced run is: the system, what is held back for Out and for Record, and the watches with their bytes as they were seen last
pub record Stage : Type 0 where
  pub system : System
  pub held : Held
  pub lines : List ℕ
  pub seen : List Seen

abbrev pub stage_of : System → Notes → Plan → Stage
stage_of system notes plan = record { system = system; held = notes.held; lines = notes.lines.items; seen = plan.seen.items }

-- this output since the start and the lines of so many steps were written, or are held back
pub record Holds (t : Trace) (old : Option Channels) (output : List ℕ) (steps : ℕ) (s : Stage) : Type 0 where
  pub out : List ℕ
  pub recorded : List ℕ
  pub sent : output ≡ t.start.output ++ (out ++ (held_in s.held).out)
  pub lines : recorded ++ s.lines ≡ listing t.texts steps t.start t.watches
  pub wrote : Grew old s.system.channels (both out recorded)
  pub unlisted : s.held.listed ≡ false

-- it is where this run is after so many turns, and the lines of so many steps are listed
pub record Keeps (t : Trace) (old : Option Channels) (made steps : ℕ) (s : Stage) : Type 0 where
  pub goes : Runs (limits_of t) t.areas t.rules t.from made
  pub tracks : Tracks s.system.machine s.system.file (turns_of t made)
  pub written : WrittenIn t made s.system.file
  pub holds : Holds t old (machine_at (turns_of t made).place).output steps s

-- it stands between two steps, and none but the first and the one that comes began at one of the addresses
pub record Stands (t : Trace) (old : Option Channels) (s : Stage) : Type 0 where
  pub made : ℕ
  pub keeps : Keeps t old made s.system.machine.steps s
  pub areas : (pages s.system.machine.pager).areas ≡ t.areas
  pub between : IsBetween s.system.machine
  pub few : s.system.machine.steps ≤ t.limits.steps
  pub unbroken : (k : ℕ) → 1 ≤ k → k < s.system.machine.steps → is_break t.breaks (run k t.start) ≡ false
  pub watches : watches_in s.seen ≡ t.watches
  pub seen : latest_in s.seen ≡ all_watched t.watches (run s.system.machine.steps t.start).memory

-- and another step is to be made
pub record IsDue (t : Trace) (s : Stage) : Type 0 where
  pub going : s.system.machine.ended ≡ None
  pub steps : s.system.machine.steps < t.limits.steps
  pub unbroken : 1 ≤ s.system.machine.steps → is_break t.breaks (run s.system.machine.steps t.start) ≡ false

-- it stopped by itself
pub record Stops (t : Trace) (end : TraceEnd) (old : Option Channels) (s : Stage) : Type 0 where
  pub named : NamesStop end (stop_of t) t.limits.steps
  pub made : ℕ
  pub keeps : Keeps t old made s.system.machine.steps s
  pub stopped : stops (stop_of t) t.limits.turns (turns_of t made) ≡ why_of (as_run end)

-- a call of the page file failed
pub record IsCutShort (t : Trace) (old : Option Channels) (s : Stage) : Type 0 where
  pub made : ℕ
  pub goes : Runs (limits_of t) t.areas t.rules t.from made
  pub means : Means s.system.machine s.system.file (turns_of t made).place
  pub steps : s.system.machine.steps ≡ (turns_of t made).steps
  pub fails : CallFails t made (asking_of s.system.machine) s.system.file
  pub lines : ℕ
  pub all_but : (lines ≡ s.system.machine.steps) ⊎ IsUnseen t made lines s.system.machine s.system.file
  pub holds : Holds t old (machine_at (turns_of t made).place).output lines s

-- by how it stopped, with what is held back still to be written
abbrev pub Leaves : Trace → TraceEnd → Option Channels → Stage → Type 0
Leaves t (Ended e) old s = Stops t (Ended e) old s
Leaves t Steps old s = Stops t Steps old s
Leaves t Break old s = Stops t Break old s
Leaves t Turns old s = Stops t Turns old s
Leaves t PageFault old s = IsCutShort t old s
Leaves t WriteFault old s = IsLostTrace t old s.system.channels

-- a step more was made, or the run stopped
abbrev pub Comes : Trace → Result (Unit {0}) TraceEnd → Option Channels → Stage → Type 0
Comes t (Ok x) old s = Stands t old s
Comes t (Err end) old s = Leaves t end old s

-- the machine stands for the flat machine at the start of its first step
pub record IsBegun (t : Trace) : Type 0 where
  pub place : t.from.place ≡ At t.start
  pub steps : t.from.steps ≡ 0

-- a traced run with these limits, of this plan
pub record IsFor (t : Trace) (limits : Limits) (rules : List Rule) (asked : Asked) : Type 0 where
  pub begun : IsBegun t
  pub same_limits : t.limits ≡ limits
  pub same_rules : t.rules ≡ rules
  pub same_breaks : t.breaks ≡ asked.breaks
  pub same_texts : t.texts ≡ asked.texts

-- a step more of each traced run that stands here
abbrev pub MakesStep : Result (Unit {0}) TraceEnd → Limits → List Rule → Asked → Stage → Stage → Type 0
MakesStep result limits rules asked s u =
    (t : Trace) → (old : Option Channels) → IsFor t limits rules asked → Stands t old s → IsDue t s → Comes t result old u

-- all steps of it
abbrev pub MakesSteps : TraceEnd → Limits → List Rule → Asked → Stage → Stage → Type 0
MakesSteps end limits rules asked s u =
    (t : Trace) → (old : Option Channels) → IsFor t limits rules asked → Stands t old s → Leaves t end old u

-- it is at the start, and its watched bytes weren't seen yet
pub record Starts (t : Trace) (old : Option Channels) (s : Stage) : Type 0 where
  pub keeps : Keeps t old 0 0 s
  pub areas : (pages s.system.machine.pager).areas ≡ t.areas
  pub between : IsBetween s.system.machine
  pub steps : s.system.machine.steps ≡ 0
  pub watches : watches_in s.seen ≡ t.watches

abbrev pub BeginsSteps : TraceEnd → Limits → List Rule → Asked → Stage → Stage → Type 0
BeginsSteps end limits rules asked s u =
    (t : Trace) → (old : Option Channels) → IsFor t limits rules asked → Starts t old s → Leaves t end old u

-- a call of the page file failed, or a write
abbrev pub has_page_fault : Result (Unit {0}) TraceEnd → Bool
has_page_fault (Ok x) = false
has_page_fault (Err end) = by_page end

abbrev pub has_write_fault : Result (Unit {0}) TraceEnd → Bool
has_write_fault (Ok x) = false
has_write_fault (Err end) = by_write end

-- what steps do to the counts of failures of the page file and of the sink
pub record CountsSteps (result : Result (Unit {0}) TraceEnd) (file_before file_now sink_before sink_now : Failures) : Type 0 where
  pub file : CountsFailure (has_page_fault result) file_before file_now
  pub sink : CountsFailure (has_write_fault result) sink_before sink_now

pub record CountsEnd (end : TraceEnd) (file_before file_now sink_before sink_now : Failures) : Type 0 where
  pub file : CountsFailure (by_page end) file_before file_now
  pub sink : CountsFailure (by_write end) sink_before sink_now

-- what is held back was written, or not all of it
abbrev pub Finishes : (end result : TraceEnd) → Channels → Option Channels → Option Channels → Type 0
Finishes end result left old new = ((result ≡ end) × Grew old new left) ⊎ ((result ≡ WriteFault) × GrewByPrefix old new left)
