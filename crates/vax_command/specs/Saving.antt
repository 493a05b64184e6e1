-- What saving a run where a limit stops it comes to.
use Rattle.std.specs.Prelude.{◌≡◌, ◌⊎◌, ℕ, false, List, [], ◌++◌, Option, None, Some}
use Rattle.vax_outside.specs.Blocks.{BlockFile}
use Rattle.vax_outside.specs.Channels.{Channels, append, kept_state, only, removed}
use Rattle.vax_outside.specs.declared.traits.Chan.TheVariants.{Report, State}
use Rattle.vax_flat.specs.Parts.{Place, machine_at}
use Rattle.vax_pager.specs.Poking.{OnlyRead}
use Rattle.vax_image.specs.Start.{Start, start_areas}
use Rattle.vax_machine.specs.Blocks.{HasMoved, MovedFirst}
use Rattle.vax_machine.specs.Paged.{Why, ByEnding, BySteps, ByTurns}
use Rattle.vax_machine.specs.Run.{FewTurns}
use Rattle.vax_machine.specs.Writing.{both}
use Rattle.vax_machine.specs.declared.engine.Engine.{Engine}
use Rattle.vax_machine_laws.specs.FlatRun.{Stage}
use Rattle.vax_report.specs.declared.Last.{Last}
use Rattle.vax_report.specs.declared.Last.TheVariants as last
use Rattle.vax_save.specs.Saved.{saved}
use Rattle.vax_sched.specs.Faults.{Denotes}
use Rattle.vax_sched.specs.declared.rule.Rule.{Rule}
use Rattle.vax_cli.specs.Words.{Options, Text}
use Rattle.vax_cli.specs.declared.command.Strictness.TheVariants.{Off}
use Rattle.vax_command.specs.Answer.{status_of}
use Rattle.vax_command.specs.Around.{Change, HasFailed, Outside}
use Rattle.vax_command.specs.Ends.{EndsSo}
use Rattle.vax_command.specs.Fresh.{machine_report}
use Rattle.vax_command.specs.Loaded.{Loaded}
use Rattle.vax_command.specs.Pages.{AreAsWritten}
use Rattle.vax_command.specs.Running.{IsMisplanned, LacksMemory}
use Rattle.vax_command.specs.Setup.{Setup, after_turns, before_turns}
use Rattle.vax_command.specs.Went.{IsCut, IsRunAnswer, Stop, last_of, run_report}
use Rattle.vax_command.specs.declared.status.Status.{Status}
use Rattle.vax_command.specs.declared.status.Status.TheVariants.{PageFault}

-- the state in which a run stopped is kept, if a limit stopped it; if the run ended, an older state is removed
abbrev pub state_by : Why → Stage → Channels
state_by (ByEnding e) s = removed
state_by BySteps s = kept_state (saved s.place s.steps)
state_by ByTurns s = kept_state (saved s.place s.steps)

abbrev pub IsLimited : Why → Type 0
IsLimited (ByEnding e) = ⊥
IsLimited BySteps = Unit {0}
IsLimited ByTurns = Unit {0}

-- what such a run has written in the end: the guest's output, the state, and the report
abbrev pub saving_output : Stage → (state : Channels) → Last → Channels
saving_output s state why = append (both (machine_at s.place).output []) (append state (only Report (run_report s why [])))

-- A run made so many turns, as one does whose state isn't saved. This is what the page file tells in the end, but for what was read for the state.
pub record HasRunSaved (setup : Setup) (count : ℕ) (before : BlockFile) (after : Option BlockFile) : Type 0 where
  pub few : FewTurns (before_turns setup) (after_turns setup count)
  pub between : BlockFile
  pub moved : HasMoved setup.areas (before_turns setup) (after_turns setup count) before between
  pub needed : AreAsWritten setup count
  pub told : OnlyRead (Some between) after

-- so it did up to where it stops, but where a write to a channel failed before
abbrev pub RunsSavedOrLoses : Setup → (count : ℕ) → BlockFile → Outside → Type 0
RunsSavedOrLoses setup count file outside =
    HasRunSaved setup count file outside.pages.after.told
    ⊎ (HasFailed outside.sink × MovedFirst setup.areas (before_turns setup) (after_turns setup count) (Some file) outside.pages.after.told)

-- It stopped by itself; the state was kept if a limit stopped it, or an older one removed, and the report was written.
pub record IsSaved (setup : Setup) (file : BlockFile) (outside : Outside) (status : Status) (grown : Channels) : Type 0 where
  pub stop : Stop setup
  pub answer : status ≡ status_of setup.strict (machine_at stop.at.place).core stop.why
  pub wrote : grown ≡ saving_output stop.at (state_by stop.why stop.at) (last_of stop.why)
  pub blocks : RunsSavedOrLoses setup stop.count file outside

-- A limit stopped it, and a call of the page file failed while the state was saved: a part of its bytes was written and not kept, and the report.
pub record IsHalfSaved (setup : Setup) (file : BlockFile) (outside : Outside) (status : Status) (grown : Channels) : Type 0 where
  pub stop : Stop setup
  pub limited : IsLimited stop.why
  pub answer : status ≡ PageFault
  pub part : List ℕ
  pub rest : List ℕ
  pub splits : part ++ rest ≡ saved stop.at.place stop.at.steps
  pub wrote : grown ≡ saving_output stop.at (only State part) last.PageFault
  pub blocks : HasRunSaved setup stop.count file outside.pages.after.told

-- one of these, or a call of the page file failed in the run; where the page file doesn't tell its contents, only which answers there may be
abbrev pub SaveWentFrom : Option BlockFile → Outside → Setup → Status → Channels → Type 0
SaveWentFrom None outside setup status grown = IsRunAnswer setup.strict (HasFailed outside.pages) status
SaveWentFrom (Some file) outside setup status grown =
    IsSaved setup file outside status grown
    ⊎ (HasFailed outside.pages × (IsHalfSaved setup file outside status grown ⊎ IsCut setup file outside status grown))

abbrev pub SaveWent : Outside → Setup → Status → Channels → Type 0
SaveWent outside setup status grown = SaveWentFrom outside.pages.before.told outside setup status grown

-- what a program's run is given that is saved: no evictions are listed and no memory is shown
abbrev pub saved_setup : Loaded → (input : Text) → List Rule → Options → Setup
saved_setup program input rules options = record {
  limits = record { steps = options.steps; turns = options.turns; listed = false };
  areas = start_areas program.system program.user;
  rules = rules;
  frames = options.frames;
  start = Start program.system program.user input;
  items = [];
  strict = Off;
}

-- a program was run with its input under a schedule, and its state was saved where a limit stopped it
pub record IsSavedRun (outside : Outside) (program : Loaded) (input schedule : Text) (options : Options) (status : Status) (grown : Channels) : Type 0 where
  pub rules : List Rule
  pub planned : Denotes (start_areas program.system program.user) schedule rules
  pub went : SaveWent outside (saved_setup program input rules options) status grown

abbrev pub SavesSo : Outside → Loaded → (input schedule : Text) → Options → Status → Channels → Type 0
SavesSo outside program input schedule options status grown =
    IsMisplanned outside.pages program schedule status grown ⊎ IsSavedRun outside program input schedule options status grown

-- it went so, or memory was refused before it
abbrev pub IsSaving : Outside → Loaded → (input schedule : Text) → Options → Status → Channels → Type 0
IsSaving outside program input schedule options status grown =
    LacksMemory outside.pages status grown ⊎ SavesSo outside program input schedule options status grown

-- and this is its answer
abbrev pub HasSavedRun : Outside → Loaded → (input schedule : Text) → Options → Status → Type 0
HasSavedRun outside program input schedule options result = EndsSo outside.sink (IsSaving outside program input schedule options) result

-- the bytes of the state at this place
abbrev pub bytes_at : Place → (steps : ℕ) → List ℕ
bytes_at place steps = saved place steps

-- the state at this place is kept
abbrev pub state_at : Place → (steps : ℕ) → Channels
state_at place steps = kept_state (bytes_at place steps)

-- The state of a machine that stands for this place was kept, and the report was written; or the page file failed after a part of it was written, and it
-- wasn't kept.
abbrev pub SavesAt : Change BlockFile → Engine → Place → Last → (meant : Status) → Status → Channels → Type 0
SavesAt pages m place why meant status grown =
    ((status ≡ meant) × (grown ≡ append (state_at place m.steps) (only Report (machine_report m why []))))
    ⊎ (HasFailed pages × (status ≡ PageFault) × ((part : List ℕ) × (rest : List ℕ) × (part ++ rest ≡ saved place m.steps) × (grown ≡ append (only State part) (only Report (machine_report m last.PageFault [])))))

-- which answers there may be
abbrev pub AnswersSave : Change BlockFile → (meant : Status) → Status → Channels → Type 0
AnswersSave pages meant status grown = (status ≡ meant) ⊎ (HasFailed pages × (status ≡ PageFault))
