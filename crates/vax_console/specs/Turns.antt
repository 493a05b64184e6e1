-- How a session goes, turn by turn: what each line makes of the machine, of its page file and of the channels.
use Rattle.std.specs.Prelude.{◌≡◌, ◌+◌, ◌⊎◌, ℕ, Bool, true, false, List, [], ◌∷◌, ◌++◌, length, Option, None, Some, Result, Ok, Err}
use Rattle.vax_space.specs.declared.Area.{Area}
use Rattle.vax_outside.specs.Blocks.{BlockFile}
use Rattle.vax_outside.specs.Channels.{Channels, Grew, GrewByPrefix}
use Rattle.vax_flat.specs.declared.Ending.{Ending}
use Rattle.vax_flat.specs.Parts.{Place, At, machine_at}
use Rattle.vax_flat.specs.Step.{Flat}
use Rattle.vax_pager.specs.Meaning.{pages}
use Rattle.vax_pager.specs.Poking.{OnlyRead, ReadsAtMost, pages_of_bytes}
use Rattle.vax_sched.specs.Due.{due}
use Rattle.vax_sched.specs.declared.rule.Rule.{Rule}
use Rattle.vax_machine.specs.Blocks.{Moved}
use Rattle.vax_machine.specs.Console.{pages_in, with_register}
use Rattle.vax_machine.specs.Depositing.{IsBroughtInPart, deposited, filed}
use Rattle.vax_machine.specs.Machine.{Means, modified_of}
use Rattle.vax_machine.specs.Paged.{Paged, Why, ByEnding, BySteps, ByTurns, paged, stops}
use Rattle.vax_machine.specs.Run as run
use Rattle.vax_machine.specs.Run.{Runs, begun}
use Rattle.vax_machine.specs.declared.event.Limits.{Limits}
use Rattle.vax_script.specs.declared.request.Request.{Request}
use Rattle.vax_script.specs.declared.request.Request.TheVariants.{ExamineRegister, ExamineMemory, DepositRegister, DepositMemory, Next, Continue, Show}
use Rattle.vax_script.specs.declared.request.Line.{Line}
use Rattle.vax_script.specs.declared.request.Line.TheVariants.{Blank, Request as Asks, Malformed}
use Rattle.vax_console.specs.Ends.{Scene, steps_in, writes}
use Rattle.vax_console.specs.Transcript.{Session, line_reply, may_deposit}
use Rattle.vax_console.specs.declared.stopped.Stopped.{Stopped}
use Rattle.vax_console.specs.declared.stopped.Stopped.TheVariants as stopped

-- what a session is held under: its limits, the areas of the memory, and the rules of the schedule
pub record Setting : Type 0 where
  pub limits : Limits
  pub areas : List Area
  pub rules : List Rule

-- where a session stands: the turns of its machine, as a run from here begins them, and what the page file and the channels tell
pub record Stand : Type 0 where
  pub at : Paged
  pub file : Option BlockFile
  pub sink : Option Channels

abbrev pub setting : Limits → List Area → List Rule → Setting
setting limits areas rules = record { limits = limits; areas = areas; rules = rules }

-- for the machine of a scene
abbrev pub setting_of : Scene → Limits → List Rule → Setting
setting_of scene limits rules = setting limits (pages scene.machine.pager).areas rules

-- where it stands in a scene, whose machine stands for this place
abbrev pub stand_at : Scene → Place → Stand
stand_at scene place = record { at = begun scene.machine place; file = scene.file; sink = scene.sink }

-- the flat machine, and the steps that were made
abbrev pub session_at : Stand → Session
session_at s = record { machine = machine_at s.at.place; steps = s.at.steps }

-- the replies, and what the program sent on the way from one place to the other
pub record Sends (s t : Stand) (replies : List ℕ) : Type 0 where
  pub sent : List ℕ
  pub output : (machine_at t.at.place).output ≡ (machine_at s.at.place).output ++ sent
  pub wrote : Grew s.sink t.sink (writes sent replies)

-- a prefix of them
pub record SendsPart (s t : Stand) (replies : List ℕ) : Type 0 where
  pub sent : List ℕ
  pub output : (machine_at t.at.place).output ≡ (machine_at s.at.place).output ++ sent
  pub wrote : GrewByPrefix s.sink t.sink (writes sent replies)

-- runs

-- the limits of a run of so many steps from here
abbrev pub limits_for : Setting → Stand → ℕ → Limits
limits_for g s count = record { steps = s.at.steps + count; turns = g.limits.turns; listed = false }

-- where so many turns from here lead
abbrev pub after_turns : Setting → ℕ → Stand → Paged
after_turns g turns s = paged g.areas (due g.rules) turns s.at

-- as the next run begins there
abbrev pub anew : Paged → Paged
anew p = record p { parts = 0; evictions = []; reads = 0 }

-- The turns of a run of so many steps from here, up to the first that is stopped, and why it is; the pages that these made absent were written to the file, in
-- order, and nothing else.
pub record MakesTurns (g : Setting) (count : ℕ) (why : Why) (s t : Stand) : Type 0 where
  pub turns : ℕ
  pub goes : Runs (limits_for g s count) g.areas g.rules s.at turns
  pub stopped : stops (s.at.steps + count) g.limits.turns (after_turns g turns s) ≡ Some why
  pub reached : t.at ≡ anew (after_turns g turns s)
  pub moved : Moved g.areas s.at (after_turns g turns s) s.file t.file

-- the run isn't cut off by the limit of turns
abbrev pub IsThrough : Why → Type 0
IsThrough (ByEnding e) = Unit {0}
IsThrough BySteps = Unit {0}
IsThrough ByTurns = ⊥

-- it makes all of its steps, or those up to an ending, and is between two of them then
pub record RunsThrough (g : Setting) (count : ℕ) (s t : Stand) : Type 0 where
  pub why : Why
  pub through : IsThrough why
  pub makes : MakesTurns g count why s t
  pub flat : Flat
  pub between : t.at.place ≡ At flat

-- what requests do

-- the machine and the file are as they were
pub record Stays (s t : Stand) : Type 0 where
  pub at : t.at ≡ s.at
  pub file : t.file ≡ s.file

-- so they are, but for at most so many reads of blocks
pub record Reads (most : ℕ) (s t : Stand) : Type 0 where
  pub at : t.at ≡ s.at
  pub file : OnlyRead s.file t.file
  pub once : ReadsAtMost most s.file t.file

-- a register has another value
pub record SetsRegister (n value : ℕ) (s t : Stand) : Type 0 where
  pub at : t.at ≡ record s.at { place = At (with_register n value (machine_at s.at.place)) }
  pub file : t.file ≡ s.file

-- no step and no turn was made, and no page is pinned
pub record Brings (s t : Stand) : Type 0 where
  pub steps : t.at.steps ≡ s.at.steps
  pub turns : t.at.turns ≡ s.at.turns
  pub frames : t.at.residence.frames ≡ s.at.residence.frames
  pub spoiled : t.at.residence.spoiled ≡ s.at.residence.spoiled
  pub pinned : t.at.residence.pinned ≡ []

-- Bytes of memory are others: their pages came in, they are modified, and no others that weren't. The file was written and read for the services
-- of these pages, and for nothing else.
pub record SetsBytes (areas : List Area) (addr : ℕ) (bytes : List ℕ) (s t : Stand) : Type 0 where
  pub at : t.at ≡ anew (deposited addr bytes s.at)
  pub moved : Moved areas s.at (deposited addr bytes s.at) s.file t.file

-- they are where they may be deposited, and else nothing changes
abbrev pub SetsBytesIf : Bool → List Area → ℕ → List ℕ → Stand → Stand → Type 0
SetsBytesIf true areas addr bytes s t = SetsBytes areas addr bytes s t
SetsBytesIf false areas addr bytes s t = Stays s t

-- a run, of a machine that hasn't ended; nothing changes at another
abbrev pub RunsUnless : Option Ending → Setting → ℕ → Stand → Stand → Type 0
RunsUnless (Some e) g count s t = Stays s t
RunsUnless None g count s t = RunsThrough g count s t

-- how many steps a line may make
abbrev pub steps_of : Setting → Line → Stand → ℕ
steps_of g l s = steps_in g.limits.steps (session_at s) (l ∷ [])

abbrev pub Answers : Setting → Request → Stand → Stand → Type 0
Answers g (ExamineRegister n) s t = Stays s t
Answers g (ExamineMemory addr count) s t = Reads (pages_in addr count) s t
Answers g (DepositRegister n value) s t = SetsRegister n value s t
Answers g (DepositMemory addr bytes) s t =
    SetsBytesIf (may_deposit (machine_at s.at.place).memory addr (length bytes)) g.areas addr bytes s t
Answers g (Next count) s t = RunsUnless (machine_at s.at.place).ending g (steps_of g (Asks (Next count)) s) s t
Answers g Continue s t = RunsUnless (machine_at s.at.place).ending g (steps_of g (Asks Continue) s) s t
Answers g Show s t = Stays s t

-- what lines do: one that is refused changes nothing
abbrev pub Does : Setting → Line → Stand → Stand → Type 0
Does g Blank s t = Stays s t
Does g (Asks r) s t = Answers g r s t
Does g Malformed s t = Stays s t

-- and the reply is written
pub record CarriesOut (g : Setting) (l : Line) (s t : Stand) : Type 0 where
  pub does : Does g l s t
  pub sends : Sends s t (line_reply g.limits.steps (session_at s) l)

-- all of these lines, one after the other
unfoldable pub CarriesOutAll : Setting → List Line → Stand → Stand → Type 0
CarriesOutAll g [] s t = t ≡ s
CarriesOutAll g (l ∷ lines) s t = (mid : Stand) × CarriesOut g l s mid × CarriesOutAll g lines mid t

-- how lines end early

-- the limit of turns came within so many steps, of which some are left
pub record HasTimedOut (g : Setting) (count : ℕ) (s : Stand) (after : Scene) : Type 0 where
  pub place : Place
  pub makes : MakesTurns g count ByTurns s (stand_at after place)
  pub sends : Sends s (stand_at after place) []
  pub means : Means after.machine after.file place

-- within those of a line
abbrev pub TimesOut : Setting → Line → Stand → Scene → Type 0
TimesOut g l s after = HasTimedOut g (steps_of g l s) s after

-- a run of a line's steps was cut off by a call of the page file that failed
abbrev pub BreaksOff : Setting → ℕ → Stand → Scene → Type 0
BreaksOff g count s after =
    run.IsCut (limits_for g s count) g.areas g.rules s.at s.file after.machine after.file s.sink after.sink

-- bytes weren't read: the machine is as it was
pub record IsUnread (most : ℕ) (s : Stand) (after : Scene) : Type 0 where
  pub reads : Reads most s (stand_at after s.at.place)
  pub means : Means after.machine after.file s.at.place
  pub silent : after.sink ≡ s.sink

-- Bytes weren't deposited: the first of their pages came in, and a call of the file failed within the service of the next, the last call that was made.
-- Every byte is as it was, and no page is modified that wasn't.
pub record IsUnset (areas : List Area) (pages : List ℕ) (s : Stand) (after : Scene) : Type 0 where
  pub brings : Brings s (stand_at after s.at.place)
  pub fails : IsBroughtInPart areas pages s.at s.file (filed after.machine after.file)
  pub only : (page : ℕ) → modified_of after.machine page ≡ true → s.at.modified page ≡ true
  pub means : Means after.machine after.file s.at.place
  pub silent : after.sink ≡ s.sink

-- a call of the page file failed within a request
abbrev pub RequestFails : Setting → Request → Stand → Scene → Type 0
RequestFails g (ExamineRegister n) s after = ⊥
RequestFails g (ExamineMemory addr count) s after = IsUnread (pages_in addr count) s after
RequestFails g (DepositRegister n value) s after = ⊥
RequestFails g (DepositMemory addr bytes) s after = IsUnset g.areas (pages_of_bytes addr (length bytes)) s after
RequestFails g (Next count) s after = BreaksOff g (steps_of g (Asks (Next count)) s) s after
RequestFails g Continue s after = BreaksOff g (steps_of g (Asks Continue) s) s after
RequestFails g Show s after = ⊥

abbrev pub Fails : Setting → Line → Stand → Scene → Type 0
Fails g Blank s after = ⊥
Fails g (Asks r) s after = RequestFails g r s after
Fails g Malformed s after = ⊥

-- the output of a line's steps wasn't written whole
abbrev pub LosesOutput : Setting → Line → Stand → Scene → Type 0
LosesOutput g l s after =
    run.IsLost (limits_for g s (steps_of g l s)) g.areas g.rules s.at s.file after.file s.sink after.sink

-- its reply wasn't
pub record LosesReply (g : Setting) (l : Line) (s : Stand) (after : Scene) : Type 0 where
  pub place : Place
  pub does : Does g l s (stand_at after place)
  pub sends : SendsPart s (stand_at after place) (line_reply g.limits.steps (session_at s) l)
  pub means : Means after.machine after.file place

abbrev pub Loses : Setting → Line → Stand → Scene → Type 0
Loses g l s after = LosesOutput g l s after ⊎ LosesReply g l s after

-- the lines in front were carried out, and the next one was cut short so
pub record IsCutShort (Ends : Line → Stand → Type 0) (g : Setting) (lines : List Line) (s : Stand) : Type 0 where
  pub front : List Line
  pub line : Line
  pub back : List Line
  pub splits : lines ≡ front ++ line ∷ back
  pub here : Stand
  pub goes : CarriesOutAll g front s here
  pub ends : Ends line here

-- all lines were carried out
pub record IsCarriedOut (g : Setting) (lines : List Line) (s : Stand) (after : Scene) : Type 0 where
  pub flat : Flat
  pub goes : CarriesOutAll g lines s (stand_at after (At flat))
  pub means : Means after.machine after.file (At flat)
  pub areas : (pages after.machine.pager).areas ≡ g.areas

-- how the lines end
abbrev pub Holds : Result (Unit {0}) Stopped → Setting → List Line → Stand → Scene → Type 0
Holds (Ok x) g lines s after = IsCarriedOut g lines s after
Holds (Err stopped.Turns) g lines s after = IsCutShort (λ l here. TimesOut g l here after) g lines s
Holds (Err stopped.PageFault) g lines s after = IsCutShort (λ l here. Fails g l here after) g lines s
Holds (Err stopped.WriteFault) g lines s after = IsCutShort (λ l here. Loses g l here after) g lines s

-- so they do from one scene to another, on whatever flat machine the first stands for
abbrev pub HoldsFrom : (before after : Scene) → Limits → List Rule → List Line → Result (Unit {0}) Stopped → Type 0
HoldsFrom before after limits rules lines result =
    (m : Flat) → Means before.machine before.file (At m) →
    Holds result (setting_of before limits rules) lines (stand_at before (At m)) after

-- so many steps

-- they were made, or those up to an ending
pub record HasMadeSteps (g : Setting) (count : ℕ) (s : Stand) (after : Scene) : Type 0 where
  pub flat : Flat
  pub runs : RunsThrough g count s (stand_at after (At flat))
  pub sends : Sends s (stand_at after (At flat)) []
  pub means : Means after.machine after.file (At flat)
  pub areas : (pages after.machine.pager).areas ≡ g.areas

abbrev pub StepsHold : Result (Option Ending) Stopped → Setting → ℕ → Stand → Scene → Type 0
StepsHold (Ok end) g count s after = HasMadeSteps g count s after
StepsHold (Err stopped.Turns) g count s after = HasTimedOut g count s after
StepsHold (Err stopped.PageFault) g count s after = BreaksOff g count s after
StepsHold (Err stopped.WriteFault) g count s after =
    run.IsLost (limits_for g s count) g.areas g.rules s.at s.file after.file s.sink after.sink

abbrev pub StepsHoldFrom : (before after : Scene) → Limits → List Rule → ℕ → Result (Option Ending) Stopped → Type 0
StepsHoldFrom before after limits rules count result =
    (m : Flat) → Means before.machine before.file (At m) →
    StepsHold result (setting_of before limits rules) count (stand_at before (At m)) after
