-- What programs come to that run together.
use Rattle.std.specs.Prelude.{ℕ, suc, ◌≡◌, ◌≤◌, ◌⊎◌, List, [], Option, Some}
use Rattle.vax_outside.specs.Channels.{Channels, Grew, GrewByPrefix, append, only, unsaved}
use Rattle.vax_outside.specs.Faults.{Rose}
use Rattle.vax_outside.specs.declared.faults.Failures.{Failures}
use Rattle.vax_outside.specs.declared.traits.Chan.TheVariants as channel
use Rattle.vax_jobs.specs.Running.{IsReady, Runs, System}
use Rattle.vax_jobs.specs.Shared.{Setting, Shared, Why, AllDone, ByTurns, bytes_sent, shared, stops}
use Rattle.vax_jobs.specs.declared.ends.JobsEnd.{JobsEnd}
use Rattle.vax_jobs.specs.declared.ends.JobsEnd.TheVariants.{Done, Turns, PageFault, WriteFault}
use Rattle.vax_jobs_report.specs.Reports.{process_reports}
use Rattle.vax_report.specs.declared.Last.{Last}
use Rattle.vax_report.specs.declared.Last.TheVariants as last

-- the reports were written
pub record HasAnswered (end result : JobsEnd) (text : List ℕ) (old new : Option Channels) (before after : Failures) : Type 0 where
  pub answer : result ≡ end
  pub wrote : Grew old new (only channel.Report text)
  pub quiet : after.count ≡ before.count

-- a write failed behind a prefix of them
pub record HasFailed (result : JobsEnd) (text : List ℕ) (old new : Option Channels) (before after : Failures) : Type 0 where
  pub answer : result ≡ WriteFault
  pub wrote : GrewByPrefix old new (only channel.Report text)
  pub rose : Rose before after
  pub later : before.count ≤ after.count

abbrev pub Answers : (end result : JobsEnd) → (text : List ℕ) → (old new : Option Channels) → (before after : Failures) → Type 0
Answers end result text old new before after = HasAnswered end result text old new before after ⊎ HasFailed result text old new before after

-- what the processes sent, and the reports on them, of which those that could go on ended so
abbrev pub output_of : ℕ → Last → Shared → Channels
output_of limit other s = append (only channel.Out (bytes_sent s)) (only channel.Report (process_reports limit other s.processes))

-- the turns stopped by themselves
pub record IsReported (x : Setting) (s : Shared) (why : Why) (old new : Option Channels) : Type 0 where
  pub count : ℕ
  pub runs : Runs x s count
  pub stopped : stops x (shared x count s) ≡ Some why
  pub wrote : Grew old new (output_of x.steps last.Turns (shared x count s))

-- a call of the page file failed in the turn behind so many
pub record IsBroken (x : Setting) (s : Shared) (old new : Option Channels) : Type 0 where
  pub count : ℕ
  pub runs : Runs x s (suc count)
  pub wrote : Grew old new (output_of x.steps last.PageFault (shared x count s))

-- a write failed: a prefix was written of what is written where the turns stop by themselves
pub record IsUnwritten (x : Setting) (s : Shared) (old new : Option Channels) : Type 0 where
  pub count : ℕ
  pub why : Why
  pub runs : Runs x s count
  pub stopped : stops x (shared x count s) ≡ Some why
  pub wrote : GrewByPrefix old new (output_of x.steps last.Turns (shared x count s))

-- or of what is written where a call of the page file failed in the turn behind so many
pub record IsBrokenUnwritten (x : Setting) (s : Shared) (old new : Option Channels) : Type 0 where
  pub count : ℕ
  pub runs : Runs x s (suc count)
  pub wrote : GrewByPrefix old new (output_of x.steps last.PageFault (shared x count s))

-- the second argument says that a call of the page file failed
abbrev pub EndsBy : JobsEnd → Type 0 → Setting → Shared → Option Channels → Option Channels → Type 0
EndsBy Done failed x s old new = IsReported x s AllDone old new
EndsBy Turns failed x s old new = IsReported x s ByTurns old new
EndsBy PageFault failed x s old new = IsBroken x s old new
EndsBy WriteFault failed x s old new = IsUnwritten x s old new ⊎ (failed × IsBrokenUnwritten x s old new)

-- from wherever turns begin
abbrev pub ReportsTo : JobsEnd → Type 0 → Setting → System → Option Channels → Option Channels → Type 0
ReportsTo result failed x before old new = (s : Shared) → IsReady x before s → EndsBy result failed x s old new

-- bytes and reports were written, whatever they are
pub record HasGrown (old new : Option Channels) : Type 0 where
  pub grown : Channels
  pub unrecorded : grown.recorded ≡ []
  pub unsaved : grown.saved ≡ unsaved
  pub grew : Grew old new grown

-- or a write failed behind a prefix
pub record HasGrownInPart (old new : Option Channels) : Type 0 where
  pub grown : Channels
  pub unrecorded : grown.recorded ≡ []
  pub unsaved : grown.saved ≡ unsaved
  pub grew : GrewByPrefix old new grown

abbrev pub OnlyReported : JobsEnd → (old new : Option Channels) → Type 0
OnlyReported Done old new = HasGrown old new
OnlyReported Turns old new = HasGrown old new
OnlyReported PageFault old new = HasGrown old new
OnlyReported WriteFault old new = HasGrownInPart old new
