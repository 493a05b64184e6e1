-- How a session goes on and ends.
use Rattle.std.specs.Prelude.{◌≡◌, ◌≢◌, ◌<◌, ◌≤◌, ◌+◌, ℕ, List, [], ◌∷◌, ◌++◌, Option, Some, None, Result, Ok, Err, min}
use Rattle.vax_outside.specs.Blocks.{BlockFile}
use Rattle.vax_outside.specs.Channels.{Channels, Grew, GrewByPrefix, only, nothing}
use Rattle.vax_outside.specs.Faults.{Rose}
use Rattle.vax_outside.specs.declared.traits.Chan.TheVariants.{Report}
use Rattle.vax_outside.specs.declared.faults.Failures.{Failures}
use Rattle.vax_flat.specs.declared.Ending.{Ending}
use Rattle.vax_flat.specs.Parts.{Place, At, GoesBy, machine_at}
use Rattle.vax_flat.specs.Step.{Flat}
use Rattle.vax_report.specs.Report.{report}
use Rattle.vax_report.specs.declared.Last.{Last}
use Rattle.vax_machine.specs.Machine.{Means}
use Rattle.vax_machine.specs.Meaning.{units_of}
use Rattle.vax_machine.specs.declared.engine.Engine.{Engine}
use Rattle.vax_machine.specs.declared.event.Limits.{Limits}
use Rattle.vax_machine.specs.declared.event.RunEnd.{RunEnd}
use Rattle.vax_machine.specs.declared.event.RunEnd.TheVariants as run_end
use Rattle.vax_script.specs.declared.request.Request.{Request}
use Rattle.vax_script.specs.declared.request.Request.TheVariants.{ExamineRegister, ExamineMemory, DepositRegister, DepositMemory, Next, Continue, Show}
use Rattle.vax_script.specs.declared.request.Line.{Line}
use Rattle.vax_script.specs.declared.request.Line.TheVariants.{Blank, Request as Asks, Malformed}
use Rattle.vax_console.specs.Transcript.{Session, advanced, left, session_after, transcript}
use Rattle.vax_console.specs.declared.SessionEnd.{SessionEnd}
use Rattle.vax_console.specs.declared.SessionEnd.TheVariants as session_end
use Rattle.vax_console.specs.declared.stopped.Stopped.{Stopped}
use Rattle.vax_console.specs.declared.stopped.Stopped.TheVariants as stopped

-- a session on a machine that stands for a flat one
abbrev pub session_on : Engine → Flat → Session
session_on m flat = record { machine = flat; steps = m.steps }

-- what a request sees: the machine, what its page file tells, and what was written
pub record Scene : Type 0 where
  pub machine : Engine
  pub file : Option BlockFile
  pub sink : Option Channels

abbrev pub scene : Engine → Option BlockFile → Option Channels → Scene
scene machine file sink = record { machine = machine; file = file; sink = sink }

-- the program's output and the replies
abbrev pub writes : (sent replies : List ℕ) → Channels
writes sent replies = record nothing { out = sent; report = replies }

-- how many steps a request may make
abbrev pub steps_for : (limit : ℕ) → Session → Request → ℕ
steps_for limit s (ExamineRegister n) = 0
steps_for limit s (ExamineMemory addr count) = 0
steps_for limit s (DepositRegister n value) = 0
steps_for limit s (DepositMemory addr bytes) = 0
steps_for limit s (Next count) = min count (left limit s)
steps_for limit s Continue = left limit s
steps_for limit s Show = 0

-- how many the first of some lines may make
abbrev pub steps_in : (limit : ℕ) → Session → List Line → ℕ
steps_in limit s [] = 0
steps_in limit s (Blank ∷ lines) = 0
steps_in limit s (Asks r ∷ lines) = steps_for limit s r
steps_in limit s (Malformed ∷ lines) = 0

-- the machine with its file, and what it has sent, are where the session is
pub record IsAt (from : Flat) (s : Session) (replies : List ℕ) (m : Engine) (file : Option BlockFile) (old now : Option Channels) : Type 0 where
  pub steps : m.steps ≡ s.steps
  pub means : Means m file (At s.machine)
  pub sent : List ℕ
  pub output : s.machine.output ≡ from.output ++ sent
  pub wrote : Grew old now (writes sent replies)

-- a place that at most so many steps lead to
pub record IsOnTheWay (s : Session) (most : ℕ) (place : Place) (made : ℕ) : Type 0 where
  pub count : ℕ
  pub few : count ≤ most
  pub steps : made ≡ (advanced count s).steps
  pub goes : GoesBy (advanced count s).machine place

-- the machine with its file, and what it has sent, are on the way from where the session is
pub record IsWithin (from : Flat) (s : Session) (most : ℕ) (replies : List ℕ) (m : Engine) (file : Option BlockFile) (old now : Option Channels) : Type 0 where
  pub place : Place
  pub goes : IsOnTheWay s most place m.steps
  pub means : Means m file place
  pub sent : List ℕ
  pub output : (machine_at place).output ≡ from.output ++ sent
  pub wrote : Grew old now (writes sent replies)

-- a prefix was written of what the way to where the session is writes
pub record IsPartOf (from : Flat) (s : Session) (replies : List ℕ) (old now : Option Channels) : Type 0 where
  pub sent : List ℕ
  pub output : s.machine.output ≡ from.output ++ sent
  pub wrote : GrewByPrefix old now (writes sent replies)

-- the limit of turns is reached, and the request has steps left
pub record IsOutOfTurns (turns : ℕ) (s : Session) (most : ℕ) (m : Engine) : Type 0 where
  pub reached : turns ≤ m.turns
  pub going : m.ended ≡ None
  pub below : m.steps < s.steps + most

-- where a count of failures has changed, one call failed, and no call was made behind it
abbrev pub ChangesOnce : Failures → Failures → Type 0
ChangesOnce before now = now.count ≢ before.count → Rose before now

-- the failures of the page file and of the sink, before and now, by what stopped a session
abbrev pub Causes : {T : Type 0} → Result T Stopped → Failures → Failures → Failures → Failures → Type 0
Causes (Ok x) file_before file_now sink_before sink_now = (file_now.count ≡ file_before.count) × (sink_now.count ≡ sink_before.count)
Causes (Err stopped.Turns) file_before file_now sink_before sink_now = (file_now.count ≡ file_before.count) × (sink_now.count ≡ sink_before.count)
Causes (Err stopped.PageFault) file_before file_now sink_before sink_now = (file_before.count ≤ file_now.count) × Rose file_before file_now × (sink_now.count ≡ sink_before.count)
Causes (Err stopped.WriteFault) file_before file_now sink_before sink_now = (file_before.count ≤ file_now.count) × (sink_before.count ≤ sink_now.count) × Rose sink_before sink_now × ChangesOnce file_before file_now

-- a reply was written, or a prefix of it where a write failed
abbrev pub Replies : Result (Unit {0}) Stopped → Failures → Failures → Option Channels → Option Channels → List ℕ → Type 0
Replies (Ok x) before now old new text = (now.count ≡ before.count) × Grew old new (only Report text)
Replies (Err stopped.Turns) before now old new text = ⊥
Replies (Err stopped.PageFault) before now old new text = ⊥
Replies (Err stopped.WriteFault) before now old new text = (before.count ≤ now.count) × Rose before now × GrewByPrefix old new (only Report text)

-- the report of a machine's state, without dumps
abbrev pub report_on : Engine → Last → List ℕ
report_on m why = report m.cpu.core why m.steps (units_of m.cpu.latch) m.cpu.term.place []

-- so many steps were made, or fewer
abbrev pub Advances : Result (Option Ending) Stopped → Limits → (count : ℕ) → Session → Engine → Option BlockFile → Option Channels → Option Channels → Type 0
Advances (Ok end) limits count s m file old now = (end ≡ (advanced count s).machine.ending) × IsAt s.machine (advanced count s) [] m file old now
Advances (Err stopped.Turns) limits count s m file old now = IsOutOfTurns limits.turns s count m × IsWithin s.machine s count [] m file old now
Advances (Err stopped.PageFault) limits count s m file old now = IsWithin s.machine s count [] m file old now
Advances (Err stopped.WriteFault) limits count s m file old now = IsPartOf s.machine (advanced count s) [] old now

-- what the end of a run means for its steps
abbrev pub answer_of : RunEnd → Result (Option Ending) Stopped
answer_of (run_end.Ended e) = Ok (Some e)
answer_of run_end.Steps = Ok None
answer_of run_end.Turns = Err stopped.Turns
answer_of run_end.PageFault = Err stopped.PageFault
answer_of run_end.WriteFault = Err stopped.WriteFault

-- lines were carried out
abbrev pub Carries : Limits → Session → List Line → Engine → Option BlockFile → Option Channels → Option Channels → Type 0
Carries limits s lines m file old now = IsAt s.machine (session_after limits.steps s lines) (transcript limits.steps s lines) m file old now

-- those in front were, and the machine is on the way through the steps of the next one
pub record IsCutOff (limits : Limits) (s : Session) (lines : List Line) (m : Engine) (file : Option BlockFile) (old now : Option Channels) : Type 0 where
  pub front : List Line
  pub back : List Line
  pub splits : lines ≡ front ++ back
  pub within : IsWithin s.machine (session_after limits.steps s front) (steps_in limits.steps (session_after limits.steps s front) back) (transcript limits.steps s front) m file old now

-- so it is, and it can't go on: the limit of turns is reached
pub record IsCutByTurns (limits : Limits) (s : Session) (lines : List Line) (m : Engine) (file : Option BlockFile) (old now : Option Channels) : Type 0 where
  pub front : List Line
  pub back : List Line
  pub splits : lines ≡ front ++ back
  pub within : IsWithin s.machine (session_after limits.steps s front) (steps_in limits.steps (session_after limits.steps s front) back) (transcript limits.steps s front) m file old now
  pub out : IsOutOfTurns limits.turns (session_after limits.steps s front) (steps_in limits.steps (session_after limits.steps s front) back) m

-- a write failed: a prefix of what all the lines write was written
abbrev pub IsLost : Limits → Session → List Line → Option Channels → Option Channels → Type 0
IsLost limits s lines old now = IsPartOf s.machine (session_after limits.steps s lines) (transcript limits.steps s lines) old now

-- how the lines end
abbrev pub Goes : Result (Unit {0}) Stopped → Limits → Session → List Line → Engine → Option BlockFile → Option Channels → Option Channels → Type 0
Goes (Ok x) limits s lines m file old now = Carries limits s lines m file old now
Goes (Err stopped.Turns) limits s lines m file old now = IsCutByTurns limits s lines m file old now
Goes (Err stopped.PageFault) limits s lines m file old now = IsCutOff limits s lines m file old now
Goes (Err stopped.WriteFault) limits s lines m file old now = IsLost limits s lines old now

-- so they do from one scene to another, on whatever flat machine the first stands for
abbrev pub GoesFrom : (before after : Scene) → Limits → List Line → Result (Unit {0}) Stopped → Type 0
GoesFrom before after limits lines result =
    (m : Flat) → Means before.machine before.file (At m) →
    Goes result limits (session_on before.machine m) lines after.machine after.file before.sink after.sink

-- the same of so many steps
abbrev pub AdvancesFrom : (before after : Scene) → Limits → (count : ℕ) → Result (Option Ending) Stopped → Type 0
AdvancesFrom before after limits count result =
    (m : Flat) → Means before.machine before.file (At m) →
    Advances result limits count (session_on before.machine m) after.machine after.file before.sink after.sink

abbrev pub outcome_of : SessionEnd → Result (Unit {0}) Stopped
outcome_of session_end.Read = Ok tt
outcome_of session_end.Turns = Err stopped.Turns
outcome_of session_end.PageFault = Err stopped.PageFault
outcome_of session_end.WriteFault = Err stopped.WriteFault

-- What a session comes to. It was read to its end: every line was carried out or refused. At the limit of turns, and where a call of the page file
-- failed, the lines in front were, and the machine is on the way through the steps of the next one.
abbrev pub Ends : SessionEnd → Limits → Session → List Line → Engine → Option BlockFile → Option Channels → Option Channels → Type 0
Ends end limits s lines m file old now = Goes (outcome_of end) limits s lines m file old now

-- nothing but Out and Report grew
pub record OnlyReplied (old now : Option Channels) : Type 0 where
  pub sent : List ℕ
  pub replies : List ℕ
  pub grew : Grew old now (writes sent replies)
