-- A line of a session that asks for the program at its start, and what comes of it.
use Rattle.std.specs.Prelude.{◌≡◌, ◌⊎◌, List}
use Rattle.vax_outside.specs.Blocks.{BlockFile}
use Rattle.vax_outside.specs.Channels.{Channels, Grew, nothing, only}
use Rattle.vax_outside.specs.declared.traits.Chan.TheVariants.{Report}
use Rattle.vax_machine.specs.declared.engine.Engine.{Engine}
use Rattle.vax_console.specs.Ends.{OnlyReplied, scene}
use Rattle.vax_debug_session.specs.Holding.{Restarts, Terms, stage}
use Rattle.vax_debug_session.specs.Plan.{Plan}
use Rattle.vax_cli.specs.Words.{Text}
use Rattle.vax_command.specs.Around.{Seen}
use Rattle.vax_command.specs.Ends.{EndsFrom, IsCutShort}
use Rattle.vax_command.specs.declared.status.Status.{Status}
use Rattle.vax_command.specs.declared.status.Status.TheVariants.{Unfinished}
use Rattle.vax_command_debug.specs.Course.{anew_line}

-- what a session hears and says: the channels, the page file, and the lines
pub record Hearing : Type 0 where
  pub sink : Seen Channels
  pub pages : Seen BlockFile
  pub lines : Seen (List Text)

abbrev pub hears : Seen Channels → Seen BlockFile → Seen (List Text) → Hearing
hears sink pages lines = record { sink = sink; pages = pages; lines = lines }

-- no call failed in between
pub record IsQuiet (before after : Hearing) : Type 0 where
  pub sink : after.sink.faults.count ≡ before.sink.faults.count
  pub pages : after.pages.faults.count ≡ before.pages.faults.count
  pub lines : after.lines.faults.count ≡ before.lines.faults.count

-- A run's last line asks for the program at its start. No call failed, and nothing but Out and Report grew.
pub record GoesAnew (g : Terms) (breaks new : Plan) (machine : Engine) (before after : Hearing) : Type 0 where
  pub left : Engine
  pub restarts : Restarts g breaks new (stage (scene machine before.pages.told before.sink.told) (scene left after.pages.told after.sink.told) before.lines.told after.lines.told)
  pub only_these : OnlyReplied before.sink.told after.sink.told
  pub quiet : IsQuiet before after

-- the program has begun anew, and that was replied
pub record IsReadyAnew (before after : Seen Channels) : Type 0 where
  pub grew : Grew before.told after.told (only Report anew_line)
  pub quiet : after.faults.count ≡ before.faults.count

-- memory was refused for it, and nothing was written; or the reply wasn't written whole
abbrev pub IsRefusedAnew : (before after : Seen Channels) → Status → Type 0
IsRefusedAnew before after status =
    EndsFrom before after Unfinished nothing status ⊎ IsCutShort before after (only Report anew_line) status
