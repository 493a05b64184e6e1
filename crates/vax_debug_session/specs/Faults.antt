-- The calls that failed in a session.
use Rattle.std.specs.Prelude.{◌≡◌, ◌≤◌, Option, None, Some}
use Rattle.vax_outside.specs.Faults.{Rose}
use Rattle.vax_outside.specs.declared.faults.Failures.{Failures}
use Rattle.vax_console.specs.Ends.{ChangesOnce}
use Rattle.vax_debug_session.specs.declared.SessionEnd.{SessionEnd}
use Rattle.vax_debug_session.specs.declared.SessionEnd.TheVariants as end

-- those of the page file, of the sink and of the lines
pub record Faults : Type 0 where
  pub file : Failures
  pub sink : Failures
  pub lines : Failures

abbrev pub faults_of : (file sink lines : Failures) → Faults
faults_of file sink lines = record { file = file; sink = sink; lines = lines }

-- no call failed
pub record NoneFailed (before now : Faults) : Type 0 where
  pub file : now.file.count ≡ before.file.count
  pub sink : now.sink.count ≡ before.sink.count
  pub lines : now.lines.count ≡ before.lines.count

pub record FileFailed (before now : Faults) : Type 0 where
  pub later : before.file.count ≤ now.file.count
  pub cause : Rose before.file now.file
  pub sink : now.sink.count ≡ before.sink.count
  pub lines : now.lines.count ≡ before.lines.count

-- a call of the page file may have failed before the write did
pub record WriteFailed (before now : Faults) : Type 0 where
  pub later : before.file.count ≤ now.file.count
  pub sunk : before.sink.count ≤ now.sink.count
  pub cause : Rose before.sink now.sink
  pub once : ChangesOnce before.file now.file
  pub lines : now.lines.count ≡ before.lines.count

pub record LineFailed (before now : Faults) : Type 0 where
  pub later : before.lines.count ≤ now.lines.count
  pub cause : Rose before.lines now.lines
  pub file : now.file.count ≡ before.file.count
  pub sink : now.sink.count ≡ before.sink.count

-- which failed where a session ended so
abbrev pub Failed : SessionEnd → Faults → Faults → Type 0
Failed end.Quit before now = NoneFailed before now
Failed end.Save before now = NoneFailed before now
Failed end.Restart before now = NoneFailed before now
Failed end.Read before now = NoneFailed before now
Failed end.Lines before now = NoneFailed before now
Failed end.Turns before now = NoneFailed before now
Failed end.PageFault before now = FileFailed before now
Failed end.WriteFault before now = WriteFailed before now
Failed end.LineFault before now = LineFailed before now

-- or none, where it goes on
abbrev pub FailedIf : Option SessionEnd → Faults → Faults → Type 0
FailedIf None before now = NoneFailed before now
FailedIf (Some e) before now = Failed e before now
