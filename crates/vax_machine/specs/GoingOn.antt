-- What a run comes to that goes on with what is held back.
use Rattle.std.specs.Prelude.{ℕ, ◌≡◌, ◌<◌, ◌≤◌, Bool, true, false, Option, Some, None, List}
use Rattle.vax_space.specs.declared.Area.{Area}
use Rattle.vax_outside.specs.Blocks.{BlockFile}
use Rattle.vax_outside.specs.Channels.{Channels}
use Rattle.vax_outside.specs.Faults.{CountsFailure}
use Rattle.vax_outside.specs.declared.faults.Failures.{Failures}
use Rattle.vax_pager.specs.Meaning.{pages}
use Rattle.vax_sched.specs.Due.{due}
use Rattle.vax_sched.specs.declared.rule.Rule.{Rule}
use Rattle.vax_machine.specs.Paged.{Paged, paged, stops}
use Rattle.vax_machine.specs.Run.{Runs, why_of}
use Rattle.vax_machine.specs.Touched.{PinsTouched}
use Rattle.vax_machine.specs.Turn.{AreCut, AreLost, Follows, IsWithin, Underway}
use Rattle.vax_machine.specs.Writing.{Origin}
use Rattle.vax_machine.specs.declared.engine.Engine.{Engine}
use Rattle.vax_machine.specs.declared.event.Limits.{Limits}
use Rattle.vax_machine.specs.declared.event.RunEnd.{RunEnd}
use Rattle.vax_machine.specs.declared.event.RunEnd.TheVariants.{Ended, Steps, Turns, PageFault, WriteFault}
use Rattle.vax_machine.specs.declared.held.Held.{Held}

-- it stopped by itself, behind so many turns more
pub record HasStopped (limits : Limits) (o : Origin) (areas : List Area) (rules : List Rule) (p : Paged) (result : RunEnd) (m : Engine) (file : Option BlockFile) (now : Option Channels) (left : Held) : Type 0 where
  pub made : ℕ
  pub goes : Runs limits areas rules p made
  pub stopped : stops limits.steps limits.turns (paged areas (due rules) made p) ≡ why_of result
  pub follows : Follows o (paged areas (due rules) made p) m file now left

abbrev pub GoneOn : Limits → Origin → List Area → List Rule → Paged → RunEnd → Engine → Option BlockFile → Option Channels → Held → Type 0
GoneOn limits o areas rules p (Ended e) m file now left = HasStopped limits o areas rules p (Ended e) m file now left
GoneOn limits o areas rules p Steps m file now left = HasStopped limits o areas rules p Steps m file now left
GoneOn limits o areas rules p Turns m file now left = HasStopped limits o areas rules p Turns m file now left
GoneOn limits o areas rules p PageFault m file now left = AreCut limits o areas rules p m file now left
GoneOn limits o areas rules p WriteFault m file now left = AreLost limits o areas rules p file now

-- a run goes on: from whatever paged run it follows, where the attempt that comes touches each page that is pinned
abbrev pub GoesOnTo : RunEnd → Limits → List Rule → Underway → Underway → Type 0
GoesOnTo result limits rules s t =
    (o : Origin) → (p : Paged) → IsWithin o p s → PinsTouched p.residence p.place
    → GoneOn limits o (pages s.system.machine.pager).areas rules p result t.system.machine t.system.file t.system.channels t.held

-- why it stopped here
abbrev pub HasReason : Limits → Engine → RunEnd → Type 0
HasReason limits m (Ended e) = m.ended ≡ Some e
HasReason limits m Steps = (m.ended ≡ None) × (limits.steps ≤ m.steps)
HasReason limits m Turns = (m.ended ≡ None) × (m.steps < limits.steps) × (limits.turns ≤ m.turns)
HasReason limits m PageFault = Unit {0}
HasReason limits m WriteFault = Unit {0}

-- a call of the page file failed
abbrev pub by_page : RunEnd → Bool
by_page (Ended e) = false
by_page Steps = false
by_page Turns = false
by_page PageFault = true
by_page WriteFault = false

-- a write failed
abbrev pub by_write : RunEnd → Bool
by_write (Ended e) = false
by_write Steps = false
by_write Turns = false
by_write PageFault = false
by_write WriteFault = true

-- what it does to the counts of failures of the page file and of the sink
pub record CountsEnd (result : RunEnd) (file_before file_now sink_before sink_now : Failures) : Type 0 where
  pub file : CountsFailure (by_page result) file_before file_now
  pub sink : CountsFailure (by_write result) sink_before sink_now
