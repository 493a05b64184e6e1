-- What running a program comes to.
use Rattle.std.specs.Prelude.{◌≡◌, ◌⊎◌, ℕ, List}
use Rattle.vax_space.specs.declared.Area.{Area}
use Rattle.vax_outside.specs.Blocks.{BlockFile}
use Rattle.vax_outside.specs.Channels.{Channels}
use Rattle.vax_image.specs.Start.{Start, start_areas}
use Rattle.vax_sched.specs.Faults.{Denotes, IsFirstFault}
use Rattle.vax_sched.specs.declared.rule.Rule.{Rule}
use Rattle.vax_cli.specs.Words.{Options, Text}
use Rattle.vax_command.specs.Around.{Change, Outside}
use Rattle.vax_command.specs.Ends.{EndsSo}
use Rattle.vax_command.specs.Status.{refusal_growth}
use Rattle.vax_command.specs.declared.status.Status.{Status}
use Rattle.vax_command.specs.declared.status.Status.TheVariants.{NoMemory, Schedule}
use Rattle.vax_command.specs.Loaded.{Loaded}
use Rattle.vax_command.specs.Setup.{Setup}
use Rattle.vax_command.specs.Went.{Went, limits_of}

-- a schedule has this first fault, for these areas
abbrev pub IsFaulty : List Area → Text → Status → Type 0
IsFaulty areas schedule status = (line : ℕ) × (kind : ℕ) × (status ≡ Schedule line kind) × IsFirstFault areas schedule line kind

-- the schedule of a program has this fault, which is told before any call of the page file
pub record IsMisplanned (pages : Change BlockFile) (program : Loaded) (schedule : Text) (status : Status) (grown : Channels) : Type 0 where
  pub fault : IsFaulty (start_areas program.system program.user) schedule status
  pub wrote : grown ≡ refusal_growth status
  pub keeps : pages.same

-- what a program's run is given: its input, the rules of its schedule and its options
abbrev pub setup_for : Loaded → (input : Text) → List Rule → Options → Setup
setup_for program input rules options = record {
  limits = limits_of options;
  areas = start_areas program.system program.user;
  rules = rules;
  frames = options.frames;
  start = Start program.system program.user input;
  items = options.dumps;
  strict = options.strict;
}

-- a program was run with its input under a schedule, from its start on and with no page resident
pub record IsRun (outside : Outside) (program : Loaded) (input schedule : Text) (options : Options) (status : Status) (grown : Channels) : Type 0 where
  pub rules : List Rule
  pub planned : Denotes (start_areas program.system program.user) schedule rules
  pub went : Went outside (setup_for program input rules options) status grown

abbrev pub RunsSo : Outside → Loaded → (input schedule : Text) → Options → Status → Channels → Type 0
RunsSo outside program input schedule options status grown =
    IsMisplanned outside.pages program schedule status grown ⊎ IsRun outside program input schedule options status grown

-- memory was refused before any call of the page file
abbrev pub LacksMemory : Change BlockFile → Status → Channels → Type 0
LacksMemory pages status grown = (status ≡ NoMemory) × (grown ≡ refusal_growth NoMemory) × pages.same

-- a run went so, or memory was refused before it
abbrev pub IsRunning : Outside → Loaded → (input schedule : Text) → Options → Status → Channels → Type 0
IsRunning outside program input schedule options status grown =
    LacksMemory outside.pages status grown ⊎ RunsSo outside program input schedule options status grown

-- and this is its answer
abbrev pub Ran : Outside → Loaded → (input schedule : Text) → Options → Status → Type 0
Ran outside program input schedule options result = EndsSo outside.sink (IsRunning outside program input schedule options) result
