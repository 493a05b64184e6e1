-- How a session with a debugger goes, and what it writes.
use Rattle.std.specs.Prelude.{ℕ, ◌≡◌, ◌-◌, ◌^◌, ◌⊎◌, List, [], ◌∷◌, ◌++◌, codes, length, Option, None, Some}
use Rattle.vax_outside.specs.Blocks.{BlockFile}
use Rattle.vax_outside.specs.Channels.{Channels, append, nothing, only, removed, unsaved}
use Rattle.vax_outside.specs.declared.traits.Chan.TheVariants.{Report, State}
use Rattle.vax_flat.specs.Parts.{Place, At, machine_at, units_done}
use Rattle.vax_flat.specs.Step.{Flat}
use Rattle.vax_flat.specs.declared.Ending.{Ending}
use Rattle.vax_report.specs.Report.{report}
use Rattle.vax_report.specs.declared.Last.{Last}
use Rattle.vax_report.specs.declared.Last.TheVariants as last
use Rattle.vax_input.specs.Lines.{Takes}
use Rattle.vax_machine.specs.Machine.{Means}
use Rattle.vax_machine.specs.declared.engine.Engine.{Engine}
use Rattle.vax_console.specs.Ends.{IsOnTheWay, IsOutOfTurns, writes}
use Rattle.vax_console.specs.Transcript.{Session, last_of}
use Rattle.vax_debug_session.specs.Exchanges.{Exchange, lines_of}
use Rattle.vax_debug_session.specs.Holding.{Asked, IsAskedAtLast, Terms, Took, act_of, after_line, held_after, prompt, replied, transcript}
use Rattle.vax_debug_session.specs.Plan.{Plan}
use Rattle.vax_debug_session.specs.Plans.{no_plan}
use Rattle.vax_debug_session.specs.Requests.{Held, held}
use Rattle.vax_debug_session.specs.declared.SessionEnd.{SessionEnd}
use Rattle.vax_debug_session.specs.declared.SessionEnd.TheVariants as end
use Rattle.vax_cli.specs.Words.{Text}
use Rattle.vax_command.specs.Around.{Change, HasFailed, Outside}
use Rattle.vax_command.specs.Fresh.{machine_report}
use Rattle.vax_command.specs.Saving.{AnswersSave, state_at, bytes_at}
use Rattle.vax_command.specs.SessionWent.{broken_off, opening}
use Rattle.vax_command.specs.declared.status.Status.{Status}
use Rattle.vax_command.specs.declared.status.Status.TheVariants.{Done, LineFault, PageFault, Turns, Unfinished}

-- where a session stops: a place of the flat machine, the steps that lead there, and what was replied before
pub record Spot : Type 0 where
  pub place : Place
  pub steps : ℕ
  pub replies : List ℕ

-- between two lines
abbrev pub spot_at : Session → List ℕ → Spot
spot_at s replies = record { place = At s.machine; steps = s.steps; replies = replies }

-- before the first line of a run, where steps stop so
abbrev pub begun : Flat → Plan → Held
begun start breaks = held (opening start) breaks

-- the lines in front of the last were carried out, and the machine is on the way through the steps of the last one
pub record IsStepping (g : Terms) (h : Held) (lines : List Exchange) (spot : Spot) : Type 0 where
  pub front : List Exchange
  pub last : Exchange
  pub splits : lines ≡ front ++ last ∷ []
  pub way : IsOnTheWay (held_after g h front).session (act_of g (held_after g h front) last).most spot.place spot.steps
  pub replies : spot.replies ≡ transcript g h front ++ prompt g.prompts

-- so it is, and it can't go on: the limit of turns is reached
pub record IsOutOf (outside : Outside) (g : Terms) (h : Held) (lines : List Exchange) (spot : Spot) : Type 0 where
  pub stepping : IsStepping g h lines spot
  pub machine : Engine
  pub means : Means machine outside.pages.after.told spot.place
  pub out : IsOutOfTurns g.limits.turns (held_after g h stepping.front).session (act_of g (held_after g h stepping.front) stepping.last).most machine

-- the last line was carried out too, and a part of its reply was written
pub record IsReplying (g : Terms) (h : Held) (lines : List Exchange) (spot : Spot) : Type 0 where
  pub front : List Exchange
  pub last : Exchange
  pub splits : lines ≡ front ++ last ∷ []
  pub told : List ℕ
  pub untold : List ℕ
  pub parts : told ++ untold ≡ replied g (held_after g h front) last
  pub is : spot ≡ spot_at (after_line g (held_after g h front) last).session ((transcript g h front ++ prompt g.prompts) ++ told)

-- all lines were carried out, and a part of the next prompt was written
pub record IsPrompting (g : Terms) (h : Held) (lines : List Exchange) (spot : Spot) : Type 0 where
  pub told : List ℕ
  pub untold : List ℕ
  pub parts : told ++ untold ≡ prompt g.prompts
  pub is : spot ≡ spot_at (held_after g h lines).session (transcript g h lines ++ told)

-- all were, and this was written behind their replies
abbrev pub IsBehind : Terms → Held → List Exchange → (more : List ℕ) → Spot → Type 0
IsBehind g h lines more spot = spot ≡ spot_at (held_after g h lines).session (transcript g h lines ++ more)

-- where a session stops that ends so, but for one whose last line asks for the state to be saved
abbrev pub StopsAt : SessionEnd → Outside → Terms → Held → List Exchange → Spot → Type 0
StopsAt end.Quit outside g h lines spot = IsBehind g h lines [] spot
StopsAt end.Save outside g h lines spot = ⊥
StopsAt end.Restart outside g h lines spot = IsBehind g h lines [] spot
StopsAt end.Read outside g h lines spot = IsBehind g h lines (prompt g.prompts) spot
StopsAt end.Lines outside g h lines spot = IsBehind g h lines [] spot
StopsAt end.Turns outside g h lines spot = IsOutOf outside g h lines spot
StopsAt end.PageFault outside g h lines spot = IsStepping g h lines spot ⊎ IsReplying g h lines spot
StopsAt end.WriteFault outside g h lines spot = (IsStepping g h lines spot ⊎ IsReplying g h lines spot) ⊎ IsPrompting g h lines spot
StopsAt end.LineFault outside g h lines spot = IsBehind g h lines (prompt g.prompts) spot

-- what failed
abbrev pub Causes : SessionEnd → Outside → Change (List Text) → Type 0
Causes end.Quit outside lines = Unit {0}
Causes end.Save outside lines = ⊥
Causes end.Restart outside lines = Unit {0}
Causes end.Read outside lines = Unit {0}
Causes end.Lines outside lines = Unit {0}
Causes end.Turns outside lines = Unit {0}
Causes end.PageFault outside lines = HasFailed outside.pages
Causes end.WriteFault outside lines = HasFailed outside.sink
Causes end.LineFault outside lines = HasFailed lines

-- why, as the report tells it
abbrev pub why_at : SessionEnd → Place → Last
why_at end.Turns place = last.Turns
why_at end.PageFault place = last.PageFault
why_at _ place = last_of (machine_at place).ending

-- The answer; a write that failed is told by how the channels grew. Where a restart ends the session, memory was refused for it.
abbrev pub answer_of : SessionEnd → Status
answer_of end.Restart = Unfinished
answer_of end.Turns = Turns
answer_of end.PageFault = PageFault
answer_of end.LineFault = LineFault
answer_of _ = Done

-- what was written: the guest's output and the replies, and behind them the report, but where a write failed before, or memory was refused
abbrev pub wrote_at : SessionEnd → Spot → Channels
wrote_at end.Restart spot = writes (machine_at spot.place).output spot.replies
wrote_at end.WriteFault spot = writes (machine_at spot.place).output spot.replies
wrote_at e spot = broken_off spot.replies spot.place spot.steps (why_at e spot.place)

-- Lines were taken, each with pages, and the session ended so behind them, or within the last one.
pub record Ended (e : SessionEnd) (outside : Outside) (lines : Change (List Text)) (start : Flat) (g : Terms) (breaks : Plan) (status : Status) (grown : Channels) : Type 0 where
  pub given : List Exchange
  pub took : Took e lines.before.told lines.after.told (lines_of given)
  pub asked : Asked e given
  pub spot : Spot
  pub stops : StopsAt e outside g (begun start breaks) given spot
  pub cause : Causes e outside lines
  pub answer : status ≡ answer_of e
  pub wrote : grown ≡ wrote_at e spot

-- So it did; of where it stops, and of what it wrote but that it was to Out and Report, nothing is said.
pub record EndedUntold (e : SessionEnd) (outside : Outside) (lines : Change (List Text)) (status : Status) (grown : Channels) : Type 0 where
  pub given : List Exchange
  pub took : Took e lines.before.told lines.after.told (lines_of given)
  pub asked : Asked e given
  pub cause : Causes e outside lines
  pub answer : status ≡ answer_of e
  pub unrecorded : grown.recorded ≡ []
  pub unsaved : grown.saved ≡ unsaved

-- what a session has written in the end whose state was saved: the guest's output and the replies, the state, and the report
abbrev pub saving_output : Session → (replies : List ℕ) → (state : Channels) → Last → Channels
saving_output s replies state why =
    append (writes s.machine.output replies)
    (append state (only Report (report s.machine.core why s.steps (units_done (At s.machine)) s.machine.taken [])))

-- the state is kept, or an older one removed if the machine has ended
abbrev pub state_unless : Option Ending → Place → (steps : ℕ) → Channels
state_unless None place steps = state_at place steps
state_unless (Some e) place steps = removed

-- The state of a machine that stands for this place was saved so, and the report was written; or the machine hasn't ended, and a call of the page file
-- failed after a part of the state was written, which wasn't kept.
abbrev pub SavesBy : Option Ending → Change BlockFile → Engine → Place → Status → Channels → Type 0
SavesBy ended pages m place status grown =
    ((status ≡ Done) × (grown ≡ append (state_unless ended place m.steps) (only Report (machine_report m (last_of ended) []))))
    ⊎ (HasFailed pages × (status ≡ PageFault) × (ended ≡ None) × ((part : List ℕ) × (rest : List ℕ) × (part ++ rest ≡ bytes_at place m.steps) × (grown ≡ append (only State part) (only Report (machine_report m last.PageFault [])))))

-- so was the state between two lines
abbrev pub SavesHere : Outside → Session → (replies : List ℕ) → Status → Channels → Type 0
SavesHere outside s replies status grown =
    ((status ≡ Done) × (grown ≡ saving_output s replies (state_unless s.machine.ending (At s.machine) s.steps) (last_of s.machine.ending)))
    ⊎ (HasFailed outside.pages × (status ≡ PageFault) × (s.machine.ending ≡ None) × ((part : List ℕ) × (rest : List ℕ) × (part ++ rest ≡ bytes_at (At s.machine) s.steps) × (grown ≡ saving_output s replies (only State part) last.PageFault)))

-- Lines were taken, each with pages, and the last of them asks for the state to be saved: it is, as it stands behind all of them.
pub record Saved (outside : Outside) (lines : Change (List Text)) (start : Flat) (g : Terms) (breaks : Plan) (status : Status) (grown : Channels) : Type 0 where
  pub given : List Exchange
  pub took : Took end.Save lines.before.told lines.after.told (lines_of given)
  pub asked : Asked end.Save given
  pub saves : SavesHere outside (held_after g (begun start breaks) given).session (transcript g (begun start breaks) given) status grown

-- So it does; of what it wrote nothing is said.
pub record SavedUntold (outside : Outside) (lines : Change (List Text)) (status : Status) (grown : Channels) : Type 0 where
  pub given : List Exchange
  pub took : Took end.Save lines.before.told lines.after.told (lines_of given)
  pub asked : Asked end.Save given
  pub answer : AnswersSave outside.pages Done status grown

-- So did a run, from this plan on; where the page file doesn't tell its contents, the flat machine isn't spoken of.
abbrev pub RunFrom : Option BlockFile → Outside → Change (List Text) → Flat → Terms → Plan → Status → Channels → Type 0
RunFrom None outside lines start g breaks status grown =
    ((e : SessionEnd) × EndedUntold e outside lines status grown) ⊎ SavedUntold outside lines status grown
RunFrom (Some file) outside lines start g breaks status grown =
    ((e : SessionEnd) × Ended e outside lines start g breaks status grown) ⊎ Saved outside lines start g breaks status grown

-- runs behind each of which the program begins anew

-- the reply where it does
abbrev pub anew_line : List ℕ
anew_line = codes "OK" ++ 10 ∷ []

-- what a run writes whose last line asks for that
abbrev pub run_output : Terms → Held → List Exchange → Channels
run_output g h run = append (writes (held_after g h run).session.machine.output (transcript g h run)) (only Report anew_line)

-- and runs, one behind the other: the machine is that of the start each time, and steps stop where they did at the end of the run before
unfoldable pub runs_output : Terms → Flat → Plan → List (List Exchange) → Channels
runs_output g start breaks [] = nothing
runs_output g start breaks (run ∷ runs) =
    append (run_output g (begun start breaks) run) (runs_output g start (held_after g (begun start breaks) run).breaks runs)

-- where steps stop behind them
unfoldable pub breaks_left : Terms → Flat → Plan → List (List Exchange) → Plan
breaks_left g start breaks [] = breaks
breaks_left g start breaks (run ∷ runs) = breaks_left g start (held_after g (begun start breaks) run).breaks runs

-- all of their lines
unfoldable pub joined : List (List Exchange) → List Exchange
joined [] = []
joined (run ∷ runs) = run ++ joined runs

-- the last line of each asks for the program's start, and it alone
unfoldable pub AreRestarts : List (List Exchange) → Type 0
AreRestarts [] = Unit {0}
AreRestarts (run ∷ runs) = IsAskedAtLast end.Restart run × AreRestarts runs

-- their lines were taken
pub record Fronts (before now : Option (List Text)) : Type 0 where
  pub runs : List (List Exchange)
  pub asked : AreRestarts runs
  pub took : Takes before now (lines_of (joined runs))

-- lines of which these are still to come
abbrev pub from : Option (List Text) → Change (List Text) → Change (List Text)
from told lines = record { before = record { faults = lines.before.faults; told = told }; after = lines.after; same = lines.same }

-- the program began anew as often as 64 bits count, and the session ended before another line was taken
pub record IsWornOut (runs : List (List Exchange)) (now after : Option (List Text)) (start : Flat) (status : Status) (grown : Channels) : Type 0 where
  pub many : length runs ≡ 2 ^ 64 - 1
  pub same : after ≡ now
  pub answer : status ≡ Done
  pub wrote : grown ≡ broken_off [] (At start) 0 (last_of start.ending)

pub record IsWornOutUntold (runs : List (List Exchange)) (now after : Option (List Text)) (status : Status) (grown : Channels) : Type 0 where
  pub many : length runs ≡ 2 ^ 64 - 1
  pub same : after ≡ now
  pub answer : status ≡ Done
  pub unrecorded : grown.recorded ≡ []
  pub unsaved : grown.saved ≡ unsaved

-- It went so: a last run ended the session, and behind each before it the program began anew. The output of all is written, one behind the other.
abbrev pub WentFrom : Option BlockFile → Outside → Change (List Text) → Flat → Terms → Status → Channels → Type 0
WentFrom None outside lines start g status grown =
    (now : Option (List Text)) × (f : Fronts lines.before.told now)
    × (RunFrom None outside (from now lines) start g no_plan status grown ⊎ IsWornOutUntold f.runs now lines.after.told status grown)
WentFrom (Some file) outside lines start g status grown =
    (now : Option (List Text)) × (f : Fronts lines.before.told now) × (last : Channels)
    × (RunFrom (Some file) outside (from now lines) start g (breaks_left g start no_plan f.runs) status last ⊎ IsWornOut f.runs now lines.after.told start status last)
    × (grown ≡ append (runs_output g start no_plan f.runs) last)

abbrev pub Went : Outside → Change (List Text) → Flat → Terms → Status → Channels → Type 0
Went outside lines start g status grown = WentFrom outside.pages.before.told outside lines start g status grown
