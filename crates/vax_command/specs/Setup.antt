-- What a run is given.
use Rattle.std.specs.Prelude.{ℕ, List}
use Rattle.vax_space.specs.declared.Area.{Area}
use Rattle.vax_flat.specs.Step.{Flat}
use Rattle.vax_sched.specs.Due.{due}
use Rattle.vax_sched.specs.declared.rule.Rule.{Rule}
use Rattle.vax_machine.specs.Laws.{Run, state_at}
use Rattle.vax_machine.specs.Paged.{Paged, fresh}
use Rattle.vax_machine.specs.declared.event.Limits.{Limits}
use Rattle.vax_cli.specs.declared.command.DumpItem.{DumpItem}
use Rattle.vax_cli.specs.declared.command.Strictness.{Strictness}

-- how far it may go, the areas of its memory, the rules of its schedule, so many frames, the flat machine from which it starts, and the memory that its
-- report is to show, and what the exit status is to tell of its end
pub record Setup : Type 0 where
  pub limits : Limits
  pub areas : List Area
  pub rules : List Rule
  pub frames : ℕ
  pub start : Flat
  pub items : List DumpItem
  pub strict : Strictness

-- its paged run
abbrev pub run_of : Setup → Run
run_of s = record { areas = s.areas; asks = due s.rules; frames = s.frames; start = s.start }

-- before its first turn
abbrev pub before_turns : Setup → Paged
before_turns s = fresh s.frames s.start

-- behind so many turns
abbrev pub after_turns : Setup → ℕ → Paged
after_turns s count = state_at (run_of s) count
