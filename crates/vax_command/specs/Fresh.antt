-- A machine at the start of a program.
use Rattle.std.specs.Prelude.{◌≡◌, ◌⊎◌, ℕ, List, [], map, Option, Some}
use Rattle.vax_space.specs.declared.Area.{Area}
use Rattle.vax_space.specs.Faults.{IsSpace}
use Rattle.vax_outside.specs.Blocks.{BlockFile}
use Rattle.vax_outside.specs.Channels.{Channels, only}
use Rattle.vax_outside.specs.declared.traits.Chan.TheVariants.{Report}
use Rattle.vax_flat.specs.Parts.{Place, At, machine_at}
use Rattle.vax_flat.specs.Step.{Flat}
use Rattle.vax_machine.specs.Console.{IsBetween}
use Rattle.vax_machine.specs.Machine.{Means, keeping}
use Rattle.vax_machine.specs.Meaning.{units_of}
use Rattle.vax_machine.specs.Paged.{fresh}
use Rattle.vax_machine.specs.Run.{begun}
use Rattle.vax_machine.specs.declared.engine.Engine.{Engine}
use Rattle.vax_report.specs.Report.{report}
use Rattle.vax_report.specs.declared.Dump.{Dump}
use Rattle.vax_report.specs.declared.Last.{Last}
use Rattle.vax_report.specs.declared.Last.TheVariants as last
use Rattle.vax_cli.specs.Words.{Text}
use Rattle.vax_cli.specs.declared.command.DumpItem.{DumpItem}
use Rattle.vax_command.specs.Around.{Change, HasFailed}
use Rattle.vax_command.specs.Went.{shown}
use Rattle.vax_command.specs.declared.status.Status.{Status}
use Rattle.vax_command.specs.declared.status.Status.TheVariants.{PageFault}

-- the report on a machine
abbrev pub machine_report : Engine → Last → List Dump → Text
machine_report m last dumps = report m.cpu.core last m.steps (units_of m.cpu.latch) m.cpu.term.place dumps

-- these are the bytes of its memory that the items ask for
abbrev pub AreShown : Engine → Option BlockFile → List DumpItem → List Dump → Type 0
AreShown m file items dumps = (place : Place) → Means m file place → dumps ≡ map (shown (machine_at place).memory) items

-- The report on a machine that stopped was written, or, where the page file failed while memory was read, the one without memory.
abbrev pub IsReported : Change BlockFile → Engine → Last → (meant : Status) → List DumpItem → Status → Channels → Type 0
IsReported pages m why meant items status grown =
    ((status ≡ meant) × ((dumps : List Dump) × AreShown m pages.before.told items dumps × (grown ≡ only Report (machine_report m why dumps))))
    ⊎ (HasFailed pages × (status ≡ PageFault) × (grown ≡ only Report (machine_report m last.PageFault [])))

-- With every page file that tells its contents it stands for this flat machine, nothing is resident, and nothing was counted. Its areas are those of a
-- space.
pub record IsFresh (m : Engine) (frames : ℕ) (start : Flat) : Type 0 where
  pub means : (file : BlockFile) → Means m (Some file) (At start)
  pub begins : begun m (At start) ≡ fresh frames start
  pub silent : start.output ≡ []
  pub space : IsSpace (keeping m).areas

-- it has these areas, and stands between two steps with no page pinned
pub record IsPrepared (m : Engine) (frames : ℕ) (start : Flat) (areas : List Area) : Type 0 where
  pub is_fresh : IsFresh m frames start
  pub has_areas : (keeping m).areas ≡ areas
  pub between : IsBetween m
