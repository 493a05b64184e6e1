-- What a session on a program comes to.
use Rattle.std.specs.Prelude.{◌⊎◌, List, false}
use Rattle.vax_outside.specs.Channels.{Channels}
use Rattle.vax_image.specs.Start.{Start, start_areas}
use Rattle.vax_sched.specs.Faults.{Denotes}
use Rattle.vax_sched.specs.declared.rule.Rule.{Rule}
use Rattle.vax_script.specs.Requests.{readings}
use Rattle.vax_cli.specs.Words.{Options, Text}
use Rattle.vax_command.specs.Around.{Outside}
use Rattle.vax_command.specs.Ends.{EndsSo}
use Rattle.vax_command.specs.declared.status.Status.{Status}
use Rattle.vax_command.specs.Loaded.{Loaded}
use Rattle.vax_command.specs.Running.{IsMisplanned, LacksMemory}
use Rattle.vax_command.specs.SessionWent.{Opening, SessionWent}

-- what it begins with
abbrev pub session_opening : Loaded → (input : Text) → Options → List Rule → (script : Text) → Opening
session_opening program input options rules script = record {
  start = Start program.system program.user input;
  frames = options.frames;
  setting = record {
    limits = record { steps = options.steps; turns = options.turns; listed = false };
    areas = start_areas program.system program.user;
    rules = rules;
  };
  lines = readings script;
}

-- a session was held on a program with its input, under a schedule without fault
pub record IsSession (outside : Outside) (program : Loaded) (input schedule script : Text) (options : Options) (status : Status) (grown : Channels) : Type 0 where
  pub rules : List Rule
  pub planned : Denotes (start_areas program.system program.user) schedule rules
  pub went : SessionWent outside (session_opening program input options rules script) status grown

abbrev pub HeldSo : Outside → Loaded → (input schedule script : Text) → Options → Status → Channels → Type 0
HeldSo outside program input schedule script options status grown =
    IsMisplanned outside.pages program schedule status grown ⊎ IsSession outside program input schedule script options status grown

-- a session went so, or memory was refused before it
abbrev pub IsHolding : Outside → Loaded → (input schedule script : Text) → Options → Status → Channels → Type 0
IsHolding outside program input schedule script options status grown =
    LacksMemory outside.pages status grown ⊎ HeldSo outside program input schedule script options status grown

-- and this is its answer
abbrev pub Held : Outside → Loaded → (input schedule script : Text) → Options → Status → Type 0
Held outside program input schedule script options result =
    EndsSo outside.sink (IsHolding outside program input schedule script options) result
