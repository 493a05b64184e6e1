-- What a session with a debugger on a program comes to.
use Rattle.std.specs.Prelude.{◌⊎◌, Bool, false, List}
use Rattle.vax_outside.specs.Channels.{Channels}
use Rattle.vax_image.specs.Start.{Start, start_areas}
use Rattle.vax_sched.specs.Faults.{Denotes}
use Rattle.vax_sched.specs.declared.rule.Rule.{Rule}
use Rattle.vax_debug_names.specs.declared.Legend.{Legend}
use Rattle.vax_debug_session.specs.Holding.{Terms}
use Rattle.vax_cli.specs.Words.{Options, Text}
use Rattle.vax_command.specs.Around.{Change, Outside}
use Rattle.vax_command.specs.Ends.{EndsSo}
use Rattle.vax_command.specs.Loaded.{Loaded}
use Rattle.vax_command.specs.Running.{IsMisplanned, LacksMemory}
use Rattle.vax_command.specs.declared.status.Status.{Status}
use Rattle.vax_command_debug.specs.Course.{Went}

-- what a session is given beside its program: the console's input, the schedule, what it is told by, and whether prompts are written
pub record Given : Type 0 where
  pub input : Text
  pub schedule : Text
  pub legend : Legend
  pub prompts : Bool

abbrev pub given : (input schedule : Text) → Legend → Bool → Given
given input schedule legend prompts = record { input = input; schedule = schedule; legend = legend; prompts = prompts }

-- what it is held under
abbrev pub terms_of : Given → Options → Terms
terms_of given options = record {
  limits = record { steps = options.steps; turns = options.turns; listed = false };
  legend = given.legend;
  prompts = given.prompts;
}

-- it was held on a program, under a schedule without fault
pub record IsHeld (outside : Outside) (lines : Change (List Text)) (program : Loaded) (g : Given) (options : Options) (status : Status) (grown : Channels) : Type 0 where
  pub rules : List Rule
  pub planned : Denotes (start_areas program.system program.user) g.schedule rules
  pub went : Went outside lines (Start program.system program.user g.input) (terms_of g options) status grown

-- or its schedule had a fault, and no line was taken
abbrev pub DebugsSo : Outside → Change (List Text) → Loaded → Given → Options → Status → Channels → Type 0
DebugsSo outside lines program g options status grown =
    (IsMisplanned outside.pages program g.schedule status grown × lines.same) ⊎ IsHeld outside lines program g options status grown

-- it went so, or memory was refused before it
abbrev pub IsDebugging : Outside → Change (List Text) → Loaded → Given → Options → Status → Channels → Type 0
IsDebugging outside lines program g options status grown =
    (LacksMemory outside.pages status grown × lines.same) ⊎ DebugsSo outside lines program g options status grown

-- and this is its answer
abbrev pub Debugged : Outside → Change (List Text) → Loaded → Given → Options → Status → Type 0
Debugged outside lines program g options result = EndsSo outside.sink (IsDebugging outside lines program g options) result
