-- What several programs come to that run together.
use Rattle.std.specs.Prelude.{ℕ, suc, ◌≡◌, ◌⊎◌, List, [], ◌++◌, length, take, drop, Option, None, Some, Ok, Err}
use Rattle.vax_outside.specs.Blocks.{BlockFile}
use Rattle.vax_outside.specs.Channels.{Channels, unsaved}
use Rattle.vax_outside.specs.Directory.{Directory}
use Rattle.vax_flat.specs.Step.{Flat}
use Rattle.vax_image.specs.declared.Image.{Image}
use Rattle.vax_jobs.specs.declared.ends.JobsEnd.{JobsEnd}
use Rattle.vax_jobs.specs.declared.ends.JobsEnd.TheVariants as jobs_end
use Rattle.vax_jobs.specs.Running.{Runs}
use Rattle.vax_jobs.specs.Shared.{Setting, Shared, Why, AllDone, ByTurns, begun, shared, stops}
use Rattle.vax_order.specs.Orders.{default_order, order_of}
use Rattle.vax_order.specs.declared.line.Line.{Line}
use Rattle.vax_report.specs.declared.Last.TheVariants as last
use Rattle.vax_together.specs.Starting.{starts_of}
use Rattle.vax_together.specs.Together.{output_of}
use Rattle.vax_cli.specs.Jobs.{JobsOptions}
use Rattle.vax_cli.specs.Words.{Text}
use Rattle.vax_command.specs.Around.{Change, HasFailed, Outside}
use Rattle.vax_command.specs.Ends.{EndsSo}
use Rattle.vax_command.specs.JobsAlone.{AreAlone}
use Rattle.vax_command.specs.Reading.{Reads, Sought, behind, first_of, of_programs, option_of, sought}
use Rattle.vax_command.specs.Running.{LacksMemory}
use Rattle.vax_command.specs.Status.{refusal_growth}
use Rattle.vax_command.specs.declared.load.Role.TheVariants as roles
use Rattle.vax_command.specs.declared.status.Status.{Status}
use Rattle.vax_command.specs.declared.status.Status.TheVariants.{Done, Usage, Missing, Large, Refused, Macros, Link, Schedule, Image as BadImage, Turns, PageFault, ReadFault, WriteFault, NoMemory, Saved, Order, NotHalted, Unsuccessful, Unfinished, LineFault, Told}

-- the files of their options: the input and the order
abbrev pub jobs_files : JobsOptions → List Sought
jobs_files options = sought roles.Other options.input ++ sought roles.Other options.order

-- the texts of the programs, of their input and of their order, if it is given
pub record JobsTexts : Type 0 where
  pub programs : List Text
  pub input : Text
  pub order : Option Text

-- of the files, of which so many are the programs
abbrev pub jobs_texts_of : ℕ → JobsOptions → List Text → JobsTexts
jobs_texts_of count options files = record {
  programs = take count files;
  input = first_of options.input (drop count files);
  order = option_of options.order (behind options.input (drop count files));
}

-- reading the programs of these names and the files of the options gives these texts
pub record HasJobsTexts (contents : Option Directory) (names : List Text) (options : JobsOptions) (texts : JobsTexts) : Type 0 where
  pub files : List Text
  pub read : Reads contents (of_programs names ++ jobs_files options) (Ok files)
  pub are : jobs_texts_of (length names) options files ≡ texts

-- the programs in user mode, and the system under which each runs
pub record Users : Type 0 where
  pub system : Image
  pub users : List Image

-- the text of an order: each makes an attempt in turn, where none is given
abbrev pub order_text : ℕ → Option Text → Text
order_text count None = default_order count
order_text count (Some text) = text

-- the order has this fault, which is told before any call of the page file
pub record IsMisordered (pages : Change BlockFile) (count : ℕ) (order : Text) (status : Status) (grown : Channels) : Type 0 where
  pub line : ℕ
  pub kind : ℕ
  pub fault : order_of count order ≡ Err (line, kind)
  pub answer : status ≡ Order line kind
  pub wrote : grown ≡ refusal_growth status
  pub keeps : pages.same

-- what they are given, and the flat machines from which they start
pub record JobsSetup : Type 0 where
  pub setting : Setting
  pub starts : List Flat

-- behind so many turns
abbrev pub behind_turns : JobsSetup → ℕ → Shared
behind_turns s count = shared s.setting count (begun s.setting.order s.starts)

-- an answer that tells the order's fault
abbrev pub IsOrderFault : (count : ℕ) → (order : Text) → Status → Type 0
IsOrderFault count order status = (line : ℕ) × (kind : ℕ) × (order_of count order ≡ Err (line, kind)) × (status ≡ Order line kind)

abbrev pub jobs_answer_to : JobsEnd → Status
jobs_answer_to jobs_end.Done = Done
jobs_answer_to jobs_end.Turns = Turns
jobs_answer_to jobs_end.PageFault = PageFault
jobs_answer_to jobs_end.WriteFault = WriteFault

abbrev pub jobs_answer : Why → Status
jobs_answer AllDone = Done
jobs_answer ByTurns = Turns

-- They stopped by themselves, and the reports on them were written. Where no program goes on, this is what each comes to alone.
pub record AreStopped (setup : JobsSetup) (status : Status) (grown : Channels) : Type 0 where
  pub count : ℕ
  pub why : Why
  pub runs : Runs setup.setting (begun setup.setting.order setup.starts) count
  pub stopped : stops setup.setting (behind_turns setup count) ≡ Some why
  pub answer : status ≡ jobs_answer why
  pub wrote : grown ≡ output_of setup.setting.steps last.Turns (behind_turns setup count)
  pub alone : why ≡ AllDone → AreAlone setup.setting.steps setup.starts grown

-- a call of the page file failed in the turn behind so many
pub record AreCut (setup : JobsSetup) (status : Status) (grown : Channels) : Type 0 where
  pub count : ℕ
  pub runs : Runs setup.setting (begun setup.setting.order setup.starts) (suc count)
  pub answer : status ≡ PageFault
  pub wrote : grown ≡ output_of setup.setting.steps last.PageFault (behind_turns setup count)

-- an answer of a run of several programs
abbrev pub IsJobsAnswer : Type 0 → Status → Type 0
IsJobsAnswer failed Done = Unit {0}
IsJobsAnswer failed Usage = ⊥
IsJobsAnswer failed (Missing name) = ⊥
IsJobsAnswer failed (Large name) = ⊥
IsJobsAnswer failed (Refused file line kind) = ⊥
IsJobsAnswer failed (Macros file line kind) = ⊥
IsJobsAnswer failed (Link kind name place) = ⊥
IsJobsAnswer failed (Schedule line kind) = ⊥
IsJobsAnswer failed (BadImage place kind) = ⊥
IsJobsAnswer failed Turns = Unit {0}
IsJobsAnswer failed PageFault = failed
IsJobsAnswer failed ReadFault = ⊥
IsJobsAnswer failed WriteFault = ⊥
IsJobsAnswer failed NoMemory = ⊥
IsJobsAnswer failed (Saved place kind) = ⊥
IsJobsAnswer failed (Order line kind) = ⊥
IsJobsAnswer failed (Told which) = ⊥
IsJobsAnswer failed NotHalted = ⊥
IsJobsAnswer failed Unsuccessful = ⊥
IsJobsAnswer failed Unfinished = ⊥
IsJobsAnswer failed LineFault = ⊥

-- of what they wrote little is said where the page file doesn't tell its contents
abbrev pub JobsWent : Option BlockFile → Outside → JobsSetup → Status → Channels → Type 0
JobsWent None outside setup status grown = IsJobsAnswer (HasFailed outside.pages) status × (grown.recorded ≡ []) × (grown.saved ≡ unsaved)
JobsWent (Some file) outside setup status grown = AreStopped setup status grown ⊎ (HasFailed outside.pages × AreCut setup status grown)

abbrev pub jobs_setup : Users → (input : Text) → List Line → JobsOptions → JobsSetup
jobs_setup programs input lines options = record {
  setting = record { order = lines; steps = options.steps; turns = options.turns; most = options.pool };
  starts = starts_of programs.system programs.users input;
}

-- they ran in an order without fault
pub record IsJobsRun (outside : Outside) (programs : Users) (input order : Text) (options : JobsOptions) (status : Status) (grown : Channels) : Type 0 where
  pub lines : List Line
  pub ordered : order_of (length programs.users) order ≡ Ok lines
  pub went : JobsWent outside.pages.before.told outside (jobs_setup programs input lines options) status grown

abbrev pub JobsRunSo : Outside → Users → (input order : Text) → JobsOptions → Status → Channels → Type 0
JobsRunSo outside programs input order options status grown =
    IsMisordered outside.pages (length programs.users) order status grown ⊎ IsJobsRun outside programs input order options status grown

-- they ran so, or memory was refused before
abbrev pub AreRunning : Outside → Users → (input order : Text) → JobsOptions → Status → Channels → Type 0
AreRunning outside programs input order options status grown =
    LacksMemory outside.pages status grown ⊎ JobsRunSo outside programs input order options status grown

-- and this is the answer
abbrev pub JobsRan : Outside → Users → (input order : Text) → JobsOptions → Status → Type 0
JobsRan outside programs input order options result = EndsSo outside.sink (AreRunning outside programs input order options) result
