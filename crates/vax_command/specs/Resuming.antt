-- What resuming a saved state comes to.
use Rattle.std.specs.Prelude.{◌≡◌, ◌+◌, ◌⊎◌, ℕ, false, List, [], None, Ok, Err}
use Rattle.vax_space.specs.declared.Area.{Area}
use Rattle.vax_outside.specs.Blocks.{BlockFile}
use Rattle.vax_outside.specs.Channels.{Channels}
use Rattle.vax_flat.specs.Parts.{GoesBy}
use Rattle.vax_flat.specs.Port.{layout}
use Rattle.vax_flat.specs.Step.{Flat}
use Rattle.vax_machine.specs.Paged.{ByTurns, begun_at}
use Rattle.vax_sched.specs.Faults.{Denotes}
use Rattle.vax_sched.specs.declared.rule.Rule.{Rule}
use Rattle.vax_save.specs.Restored.{restored_place}
use Rattle.vax_save.specs.Restoring.{Restored, restored}
use Rattle.vax_save.specs.declared.SaveError.TheVariants.{Fault}
use Rattle.vax_cli.specs.Words.{Options, Text}
use Rattle.vax_cli.specs.declared.command.Strictness.TheVariants.{Off}
use Rattle.vax_command.specs.Around.{Change, Outside}
use Rattle.vax_command.specs.Course.{Course, Halt, WentOn}
use Rattle.vax_command.specs.Ends.{EndsSo}
use Rattle.vax_command.specs.Onward.{GoesByFlat, IsTooLow}
use Rattle.vax_command.specs.Running.{IsFaulty, LacksMemory}
use Rattle.vax_command.specs.Status.{refusal_growth}
use Rattle.vax_command.specs.declared.status.Status.{Status}
use Rattle.vax_command.specs.declared.status.Status.TheVariants.{Saved}

-- the bytes are no saved state, and this is their first fault
abbrev pub IsUnsound : Text → Status → Type 0
IsUnsound bytes status = (place : ℕ) × (kind : ℕ) × (status ≡ Saved place kind) × (restored bytes ≡ Err (Fault place kind))

-- the areas of the memory of a saved state
abbrev pub AreAreas : List Area → Restored → Type 0
AreAreas areas r = layout areas ≡ layout r.machine.memory

-- they are one, and the schedule has this first fault for its areas
pub record IsMisfit (bytes schedule : Text) (status : Status) : Type 0 where
  pub state : Restored
  pub is : restored bytes ≡ Ok state
  pub areas : List Area
  pub placed : AreAreas areas state
  pub fault : IsFaulty areas schedule status

-- one of both is so
abbrev pub IsUnfit : (bytes schedule : Text) → Status → Type 0
IsUnfit bytes schedule status = IsUnsound bytes status ⊎ IsMisfit bytes schedule status

-- and then no run is resumed, before any call of the page file
pub record IsNotResumed (pages : Change BlockFile) (bytes schedule : Text) (status : Status) (grown : Channels) : Type 0 where
  pub cause : IsUnfit bytes schedule status
  pub wrote : grown ≡ refusal_growth status
  pub keeps : pages.same

-- The run that goes on: it begins where the state was saved, with no page resident, and counts the steps on from those of the state. The limit of steps is of
-- those that it makes.
abbrev pub resumed_course : Restored → List Area → List Rule → Options → Course
resumed_course r areas rules options = record {
  limits = record { steps = r.steps + options.steps; turns = options.turns; listed = false };
  areas = areas;
  rules = rules;
  begins = begun_at options.frames r.steps (restored_place r []);
  items = options.dumps;
  strict = Off;
}

-- A run went on from a saved state, under a schedule without fault for its areas. So it goes by the flat machine's run from each start whose step comes to the
-- place of the state, at once or after parts. The limit of turns stops it only where it is too low.
pub record IsResumed (outside : Outside) (bytes schedule : Text) (options : Options) (status : Status) (grown : Channels) : Type 0 where
  pub state : Restored
  pub is : restored bytes ≡ Ok state
  pub areas : List Area
  pub placed : AreAreas areas state
  pub rules : List Rule
  pub planned : Denotes areas schedule rules
  pub went : WentOn outside (resumed_course state areas rules options) status grown
  pub flat : (start : Flat) → start.ending ≡ None → GoesBy start (restored_place state []) → GoesByFlat (resumed_course state areas rules options) state.steps options.steps start
  pub short : (h : Halt (resumed_course state areas rules options)) → h.why ≡ ByTurns → IsTooLow (resumed_course state areas rules options) h.count

abbrev pub ResumesSo : Outside → (bytes schedule : Text) → Options → Status → Channels → Type 0
ResumesSo outside bytes schedule options status grown =
    IsNotResumed outside.pages bytes schedule status grown ⊎ IsResumed outside bytes schedule options status grown

-- it went so, or memory was refused before it
abbrev pub IsResuming : Outside → (bytes schedule : Text) → Options → Status → Channels → Type 0
IsResuming outside bytes schedule options status grown =
    LacksMemory outside.pages status grown ⊎ ResumesSo outside bytes schedule options status grown

-- and this is its answer
abbrev pub HasResumed : Outside → (bytes schedule : Text) → Options → Status → Type 0
HasResumed outside bytes schedule options result = EndsSo outside.sink (IsResuming outside bytes schedule options) result
