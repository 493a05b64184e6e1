-- How a session of the console goes, and what it writes.
use Rattle.std.specs.Prelude.{◌≡◌, ◌<◌, ◌≤◌, ◌+◌, ◌-◌, ◌*◌, ◌^◌, ◌⊎◌, ℕ, List, [], ◌++◌, Option, None, Some}
use Rattle.vax_outside.specs.Blocks.{BlockFile}
use Rattle.vax_outside.specs.Channels.{Channels, Grew, append, only}
use Rattle.vax_outside.specs.declared.traits.Chan.TheVariants.{Report}
use Rattle.vax_flat.specs.Parts.{Place, machine_at, units_done}
use Rattle.vax_flat.specs.Step.{Flat}
use Rattle.vax_sched.specs.declared.rule.Rule.{Rule}
use Rattle.vax_report.specs.Report.{report}
use Rattle.vax_report.specs.declared.Last.{Last}
use Rattle.vax_report.specs.declared.Last.TheVariants as last
use Rattle.vax_machine.specs.Machine.{Means, residence}
use Rattle.vax_machine.specs.Paged.{fresh}
use Rattle.vax_machine.specs.declared.engine.Engine.{Engine}
use Rattle.vax_machine.specs.declared.event.Limits.{Limits}
use Rattle.vax_script.specs.declared.request.Line.{Line}
use Rattle.vax_console.specs.Ends.{IsOnTheWay, outcome_of, scene, steps_in, writes}
use Rattle.vax_console.specs.Parts.{LeadsThrough, LinesHaveParts}
use Rattle.vax_console.specs.Transcript.{Session, session_after, transcript}
use Rattle.vax_console.specs.Turns.{Holds, Setting, Stand}
use Rattle.vax_console.specs.declared.SessionEnd.{SessionEnd}
use Rattle.vax_console.specs.declared.SessionEnd.TheVariants as session_end
use Rattle.vax_command.specs.Around.{HasFailed, Outside}
use Rattle.vax_command.specs.Went.{IsRunAnswer}
use Rattle.vax_cli.specs.declared.command.Strictness.TheVariants.{Off}
use Rattle.vax_command.specs.declared.status.Status.{Status}
use Rattle.vax_command.specs.declared.status.Status.TheVariants.{Done, PageFault, Turns}

-- what a session begins with: the flat machine, how many frames there are, what it is held under, and the lines
pub record Opening : Type 0 where
  pub start : Flat
  pub frames : ℕ
  pub setting : Setting
  pub lines : List Line

abbrev pub opening_of : ℕ → Flat → Setting → List Line → Opening
opening_of frames start setting lines = record { start = start; frames = frames; setting = setting; lines = lines }

-- before its first line
abbrev pub opening : Flat → Session
opening start = record { machine = start; steps = 0 }

-- behind the first of its lines, what these replied, and how many steps the next line may make
abbrev pub session_behind : Opening → List Line → Session
session_behind o front = session_after o.setting.limits.steps (opening o.start) front

abbrev pub replies_to : Opening → List Line → List ℕ
replies_to o front = transcript o.setting.limits.steps (opening o.start) front

abbrev pub next_steps : Opening → (front back : List Line) → ℕ
next_steps o front back = steps_in o.setting.limits.steps (session_behind o front) back

-- before the first line, by turns: no page is resident
abbrev pub first_stand : Outside → BlockFile → Opening → Stand
first_stand outside file o = record { at = fresh o.frames o.start; file = Some file; sink = outside.sink.before.told }

-- the lines went so, turn by turn, up to this end; they leave this machine, where the channels tell this
pub record Goes (outside : Outside) (o : Opening) (file : BlockFile) (end : SessionEnd) (sink : Option Channels) : Type 0 where
  pub machine : Engine
  pub holds : Holds (outcome_of end) o.setting o.lines (first_stand outside file o) (scene machine outside.pages.after.told sink)

-- and the machine is at a place
pub record GoesTo (outside : Outside) (o : Opening) (file : BlockFile) (end : SessionEnd) : Type 0 where
  pub sink : Option Channels
  pub goes : Goes outside o file end sink
  pub place : Place
  pub means : Means goes.machine outside.pages.after.told place

-- every line was carried out or refused, but where a write failed before
pub record IsCarriedOut (outside : Outside) (o : Opening) (file : BlockFile) (status : Status) (grown : Channels) : Type 0 where
  pub answer : status ≡ Done
  pub wrote : grown ≡ writes (session_behind o o.lines).machine.output (replies_to o o.lines)
  pub goes : Goes outside o file session_end.Read outside.sink.after.told ⊎ (HasFailed outside.sink × Goes outside o file session_end.WriteFault outside.sink.after.told)

-- what it wrote up to a place, and the report on the machine there
abbrev pub broken_off : List ℕ → Place → ℕ → Last → Channels
broken_off replies place steps why =
    append (writes (machine_at place).output replies) (only Report (report (machine_at place).core why steps (units_done place) (machine_at place).taken []))

-- the lines in front were, and a call of the page file failed on the way through the steps of the next one
pub record IsBrokenOff (outside : Outside) (o : Opening) (file : BlockFile) (status : Status) (grown : Channels) : Type 0 where
  pub front : List Line
  pub back : List Line
  pub splits : o.lines ≡ front ++ back
  pub at : GoesTo outside o file session_end.PageFault
  pub on_the_way : IsOnTheWay (session_behind o front) (next_steps o front back) at.place at.goes.machine.steps
  pub told : Grew outside.sink.before.told at.sink (writes (machine_at at.place).output (replies_to o front))
  pub answer : status ≡ PageFault
  pub wrote : grown ≡ broken_off (replies_to o front) at.place at.goes.machine.steps last.PageFault

-- Turns up to their limit are few for the parts that were made, up to so many steps and so many units of the next one: with no rule in the schedule, at
-- most 41 for each part, and 40 more.
pub record AreFew (limits : Limits) (rules : List Rule) (s : Session) (lines : List Line) (steps units : ℕ) : Type 0 where
  pub place : Place
  pub here : units_done place ≡ units
  pub parts : ℕ
  pub through : LeadsThrough limits.steps s lines steps place parts
  pub few : rules ≡ [] → limits.turns ≤ 41 * parts + 40

-- the limit of turns is smaller than 41 for each of so many parts and one for each eviction of a pinned page that led to this machine
abbrev pub IsTooLow : Opening → Engine → ℕ → Type 0
IsTooLow o m parts = (residence m).spoiled < 2 ^ 64 - 1 → o.setting.limits.turns < 41 * parts + (residence m).spoiled

-- The lines in front were, and the limit of turns came on the way through the steps of the next one, before the machine ended or all were made. It
-- is too low for the parts of all lines; with no rule in the schedule no pinned page was evicted.
pub record IsTimedOut (outside : Outside) (o : Opening) (file : BlockFile) (status : Status) (grown : Channels) : Type 0 where
  pub front : List Line
  pub back : List Line
  pub splits : o.lines ≡ front ++ back
  pub at : GoesTo outside o file session_end.Turns
  pub on_the_way : IsOnTheWay (session_behind o front) (next_steps o front back) at.place at.goes.machine.steps
  pub told : Grew outside.sink.before.told at.sink (writes (machine_at at.place).output (replies_to o front))
  pub going : (machine_at at.place).ending ≡ None
  pub below : at.goes.machine.steps < (session_behind o front).steps + next_steps o front back
  pub few : AreFew o.setting.limits o.setting.rules (opening o.start) o.lines at.goes.machine.steps (units_done at.place)
  pub too_low : (all : ℕ) → LinesHaveParts o.setting.limits.steps (opening o.start) o.lines all → IsTooLow o at.goes.machine all
  pub unspoiled : o.setting.rules ≡ [] → (residence at.goes.machine).spoiled ≡ 0
  pub answer : status ≡ Turns
  pub wrote : grown ≡ broken_off (replies_to o front) at.place at.goes.machine.steps last.Turns

-- It is read to its end, or the limit of turns or a failed call of the page file ends it; of what it wrote nothing is said where the page file
-- doesn't tell its contents.
abbrev pub SessionFrom : Option BlockFile → Outside → Opening → Status → Channels → Type 0
SessionFrom None outside o status grown = IsRunAnswer Off (HasFailed outside.pages) status
SessionFrom (Some file) outside o status grown =
    IsCarriedOut outside o file status grown
    ⊎ (IsTimedOut outside o file status grown ⊎ (HasFailed outside.pages × IsBrokenOff outside o file status grown))

abbrev pub SessionWent : Outside → Opening → Status → Channels → Type 0
SessionWent outside o status grown = SessionFrom outside.pages.before.told outside o status grown
