-- How a run goes from whatever place a machine stands for, by its turns, and what it writes.
use Rattle.std.specs.Prelude.{◌≡◌, ◌+◌, ◌⊎◌, ℕ, suc, false, List, [], ◌++◌, Option, None, Some}
use Rattle.vax_space.specs.declared.Area.{Area}
use Rattle.vax_outside.specs.Blocks.{BlockFile}
use Rattle.vax_outside.specs.Channels.{Channels, unsaved}
use Rattle.vax_flat.specs.Parts.{machine_at}
use Rattle.vax_sched.specs.Due.{due}
use Rattle.vax_sched.specs.declared.rule.Rule.{Rule}
use Rattle.vax_report.specs.declared.Last.TheVariants as last
use Rattle.vax_machine.specs.Blocks.{HasMoved, MovedFirst}
use Rattle.vax_machine.specs.Calling.{Asking, NextCallFails}
use Rattle.vax_machine.specs.Machine.{Means}
use Rattle.vax_machine.specs.Paged.{Paged, Why, all_evicted, all_named, paged, stops}
use Rattle.vax_machine.specs.Run.{FewTurns, Runs, begun}
use Rattle.vax_machine.specs.Writing.{lines_of}
use Rattle.vax_machine.specs.declared.engine.Engine.{Engine}
use Rattle.vax_machine.specs.declared.event.Limits.{Limits}
use Rattle.vax_machine_laws.specs.FlatRun.{Stage, stage_of}
use Rattle.vax_cli.specs.Words.{Text}
use Rattle.vax_cli.specs.declared.command.DumpItem.{DumpItem}
use Rattle.vax_cli.specs.declared.command.Strictness.{Strictness}
use Rattle.vax_command.specs.Answer.{status_of}
use Rattle.vax_command.specs.Around.{HasFailed, Outside}
use Rattle.vax_command.specs.Room.{ReadsFor}
use Rattle.vax_command.specs.Setup.{Setup, before_turns}
use Rattle.vax_command.specs.Went.{IsRunAnswer, dumps_at, last_of, run_output}
use Rattle.vax_command.specs.declared.status.Status.{Status}
use Rattle.vax_command.specs.declared.status.Status.TheVariants.{PageFault}

-- how far a run may go, the areas of its memory, the rules of its schedule, where its turns begin, the memory that its report is to show, and what the exit
-- status is to tell of its end
pub record Course : Type 0 where
  pub limits : Limits
  pub areas : List Area
  pub rules : List Rule
  pub begins : Paged
  pub items : List DumpItem
  pub strict : Strictness

-- that of a run from a start
abbrev pub course_of : Setup → Course
course_of s = record { limits = s.limits; areas = s.areas; rules = s.rules; begins = before_turns s; items = s.items; strict = s.strict }

-- With every page file that tells its contents the machine stands for the place at which these turns begin. Nothing is pinned there, and nothing was sent.
pub record IsReady (m : Engine) (b : Paged) : Type 0 where
  pub means : (file : BlockFile) → Means m (Some file) b.place
  pub begins : begun m b.place ≡ b
  pub silent : (machine_at b.place).output ≡ []
  pub unpinned : b.residence.pinned ≡ []

-- behind so many turns
abbrev pub turned : Course → ℕ → Paged
turned c count = paged c.areas (due c.rules) count c.begins

-- the lines of its evictions, where they are to be listed
abbrev pub lines_in : Course → Paged → Text
lines_in c p = lines_of c.limits.listed p.evictions

-- none of so many turns was stopped, and it stopped there
pub record Halt (c : Course) : Type 0 where
  pub count : ℕ
  pub why : Why
  pub goes : Runs c.limits c.areas c.rules c.begins count
  pub stopped : stops c.limits.steps c.limits.turns (turned c count) ≡ Some why

-- where it stopped
abbrev pub halted_at : (c : Course) → Halt c → Stage
halted_at c h = stage_of (turned c h.count)

-- It made so many turns, few of them in vain, and wrote the pages that were made absent to which an attempt had written. This is what the file tells in the
-- end, but for what was read for the report.
pub record HasTurned (c : Course) (count : ℕ) (before : BlockFile) (after : Option BlockFile) : Type 0 where
  pub few : FewTurns c.begins (turned c count)
  pub between : BlockFile
  pub moved : HasMoved c.areas c.begins (turned c count) before between
  pub told : ReadsFor c.items (Some between) after
  pub unread : c.items ≡ [] → after ≡ Some between

-- so it did up to where it stops, but where a write to a channel failed before: then only the first of these pages were written
abbrev pub TurnsOrLoses : Course → (count : ℕ) → BlockFile → Outside → Type 0
TurnsOrLoses c count file outside =
    HasTurned c count file outside.pages.after.told
    ⊎ (HasFailed outside.sink × MovedFirst c.areas c.begins (turned c count) (Some file) outside.pages.after.told)

-- it stopped by itself, and the report on it was written
pub record IsHalted (c : Course) (file : BlockFile) (outside : Outside) (status : Status) (grown : Channels) : Type 0 where
  pub halt : Halt c
  pub answer : status ≡ status_of c.strict (machine_at (halted_at c halt).place).core halt.why
  pub wrote : grown ≡ run_output (halted_at c halt) (lines_in c (turned c halt.count)) (last_of halt.why) (dumps_at (halted_at c halt) c.items)
  pub blocks : TurnsOrLoses c halt.count file outside

-- it stopped by itself, and a call of the page file failed while the memory was read that the report was to show
pub record IsUnshown (c : Course) (file : BlockFile) (outside : Outside) (status : Status) (grown : Channels) : Type 0 where
  pub halt : Halt c
  pub answer : status ≡ PageFault
  pub wrote : grown ≡ run_output (halted_at c halt) (lines_in c (turned c halt.count)) last.PageFault []
  pub blocks : HasTurned c halt.count file outside.pages.after.told

-- A call of the page file failed in the turn behind so many, when the first of what was due had been made absent. It is the next call that this turn makes,
-- and each before it was made.
pub record IsBroken (c : Course) (file : BlockFile) (outside : Outside) (status : Status) (grown : Channels) : Type 0 where
  pub count : ℕ
  pub goes : Runs c.limits c.areas c.rules c.begins (suc count)
  pub front : List ℕ
  pub rest : List ℕ
  pub splits : all_named c.areas (due c.rules ((turned c count).turns + 1)) ≡ front ++ rest
  pub asks : Asking
  pub fails : NextCallFails c.areas c.begins (all_evicted front (turned c count)) rest asks (Some file) outside.pages.after.told
  pub answer : status ≡ PageFault
  pub wrote : grown ≡ run_output (stage_of (turned c count)) (lines_in c (all_evicted front (turned c count))) last.PageFault []

-- an answer of a run whose page file doesn't tell its contents; Record is empty where evictions aren't to be listed, and no state was saved
pub record IsUnseen (c : Course) (outside : Outside) (status : Status) (grown : Channels) : Type 0 where
  pub answer : IsRunAnswer c.strict (HasFailed outside.pages) status
  pub unlisted : c.limits.listed ≡ false → grown.recorded ≡ []
  pub unsaved : grown.saved ≡ unsaved

-- it stopped by itself, or a call of the page file failed; of what it wrote little is said where the page file doesn't tell its contents
abbrev pub WentOnFrom : Option BlockFile → Outside → Course → Status → Channels → Type 0
WentOnFrom None outside c status grown = IsUnseen c outside status grown
WentOnFrom (Some file) outside c status grown =
    IsHalted c file outside status grown
    ⊎ (HasFailed outside.pages × (IsUnshown c file outside status grown ⊎ IsBroken c file outside status grown))

abbrev pub WentOn : Outside → Course → Status → Channels → Type 0
WentOn outside c status grown = WentOnFrom outside.pages.before.told outside c status grown
