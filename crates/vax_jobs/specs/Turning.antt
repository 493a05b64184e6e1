-- What turns of processes do.
use Rattle.std.specs.Prelude.{ℕ, ◌≡◌, ◌⊎◌, Bool, true, false, Option, Some, None, List, slice_get}
use Rattle.std.specs.Option.{option_and_then}
use Rattle.vax_outside.specs.Blocks.{BlockFile}
use Rattle.vax_flat.specs.declared.Ending.{Ending}
use Rattle.vax_flat.specs.Parts.{Place}
use Rattle.vax_pager.specs.Listing.{first}
use Rattle.vax_machine.specs.Machine.{Goes, KeepsPlace, Means, residence, tried}
use Rattle.vax_machine.specs.Meaning.{engine, memory_of}
use Rattle.vax_machine.specs.Residence.{eased}
use Rattle.vax_machine.specs.Touched.{PinsTouched}
use Rattle.vax_machine.specs.declared.engine.Engine.{Engine}
use Rattle.vax_machine.specs.declared.event.Applied.{Applied}
use Rattle.vax_machine.specs.declared.event.Applied.TheVariants as applied
use Rattle.vax_machine.specs.declared.machine.Machine.{Machine}
use Rattle.vax_window.specs.Windows.{its}
use Rattle.vax_jobs.specs.Pool.{Keeps}
use Rattle.vax_jobs.specs.Pooling.{Pooling, altered, came, is_there, with_out, with_room}
use Rattle.vax_jobs.specs.declared.turn.Turn.{Turn}
use Rattle.vax_jobs.specs.declared.turn.Turn.TheVariants.{Go, Out, Clean}
use Rattle.vax_jobs.specs.declared.turn.Turned.{Turned}
use Rattle.vax_jobs.specs.declared.turn.Turned.TheVariants.{Stepped, Parted, Absent, Ended, Moved, Nothing, Failed}

abbrev pub job_of : Turn → ℕ
job_of (Go job) = job
job_of (Out job page) = job
job_of (Clean job) = job

-- how a process ended, if it did
abbrev pub ending_at : Pooling → ℕ → Option Ending
ending_at p job = option_and_then (λ k. k.ended) (slice_get p.processes job)

-- an attempt of a process that comes to this
abbrev pub attempted : ℕ → Applied → Pooling → Pooling
attempted job answer p = record p { processes = altered job (tried answer) p.processes }

-- what all keep behind an attempt of a process that ended so, or goes on: the page that was missed is served, and where the pool is full, the one that was
-- served longest ago and isn't pinned makes room; where a call of the page file failed, that is left out, or the page isn't served
abbrev pub HasGone : ℕ → Option Ending → Turned → Pooling → Pooling → Type 0
HasGone job (Some e) result old new = (result ≡ Ended e) × (new ≡ old)
HasGone job None (Stepped sent) old new = new ≡ attempted job (applied.Stepped sent) old
HasGone job None Parted old new = new ≡ attempted job applied.Parted old
HasGone job None (Ended e) old new = new ≡ attempted job (applied.Ended e) old
HasGone job None (Absent page) old new = new ≡ came job page (with_room (attempted job (applied.Absent page) old))
HasGone job None Failed old new =
    (page : ℕ) × ((new ≡ attempted job (applied.Absent page) old) ⊎ (new ≡ with_room (attempted job (applied.Absent page) old)))
HasGone job None Moved old new = ⊥
HasGone job None Nothing old new = ⊥

-- a page of a process, which is resident or isn't, is made absent
abbrev pub MovesOut : ℕ → ℕ → Bool → Turned → Pooling → Pooling → Type 0
MovesOut job page false result old new = (result ≡ Nothing) × (new ≡ old)
MovesOut job page true result old new = ((result ≡ Failed) × (new ≡ old)) ⊎ ((result ≡ Moved) × (new ≡ with_out job page old))

abbrev pub IsTurned : Turn → Turned → Pooling → Pooling → Type 0
IsTurned (Go job) result old new = HasGone job (ending_at old job) result old new
IsTurned (Out job page) result old new = MovesOut job page (is_there old.resident job page) result old new
IsTurned (Clean job) result old new = new ≡ old

-- where an attempt leads from a place, by the first page that it touches and that isn't resident
abbrev pub Leads : Turned → (ℕ → Bool) → Engine → Option BlockFile → Place → Type 0
Leads (Stepped sent) resident new file place = Goes (applied.Stepped sent) resident new file place
Leads Parted resident new file place = Goes applied.Parted resident new file place
Leads (Absent page) resident new file place = Goes (applied.Absent page) resident new file place
Leads (Ended e) resident new file place = Goes (applied.Ended e) resident new file place
Leads Failed resident new file place = Means new file place
Leads Moved resident new file place = ⊥
Leads Nothing resident new file place = ⊥

-- one of a process that ended so, or goes on
abbrev pub LeadsUnless : Option Ending → Turned → (ℕ → Bool) → Engine → Option BlockFile → Place → Type 0
LeadsUnless (Some e) result resident new file place = Means new file place
LeadsUnless None result resident new file place = Leads result resident new file place

-- a page is written exactly where one is modified, unless a call of the page file failed
abbrev pub Cleans : Option ℕ → Turned → Type 0
Cleans None result = result ≡ Nothing
Cleans (Some page) result = (result ≡ Moved) ⊎ (result ≡ Failed)

-- what a turn makes of the process whose it is, from this machine and what its part of the file tells
abbrev pub MovesBy : Turn → Turned → Pooling → Machine → Option BlockFile → Machine → Option BlockFile → Type 0
MovesBy (Go job) result p m before n after =
    (place : Place) → Means (engine m) before place → LeadsUnless (engine m).ended result (is_there p.resident job) (engine n) after place
MovesBy (Out job page) result p m before n after = KeepsPlace (engine m) before (engine n) after
MovesBy (Clean job) result p m before n after = KeepsPlace (engine m) before (engine n) after × Cleans (first (memory_of m).modified) result

-- what a turn makes of all processes: its own goes on, and nothing is lost of what the others stand for
pub record HasTurned (turn : Turn) (result : Turned) (p : Pooling) (old : List Machine) (before : Option BlockFile) (new : List Machine) (after : Option BlockFile) : Type 0 where
  pub own : (m n : Machine) → slice_get old (job_of turn) ≡ Some m → slice_get new (job_of turn) ≡ Some n →
      MovesBy turn result p m (its (job_of turn) before) n (its (job_of turn) after)
  pub others : (job : ℕ) → (job ≡ job_of turn → ⊥) → (m n : Machine) → slice_get old job ≡ Some m → slice_get new job ≡ Some n → Keeps job m before n after

-- a call of the page file failed
abbrev pub has_failed : Turned → Bool
has_failed Failed = true
has_failed result = false

-- an attempt missed a page
abbrev pub has_missed : Turned → Bool
has_missed (Absent page) = true
has_missed Failed = true
has_missed result = false

-- an attempt that misses a page drops no pins, where it touches each page that its process has pinned
abbrev pub DropsNoPins : Turn → Turned → List Machine → Option BlockFile → Type 0
DropsNoPins (Go job) result old before =
    (m : Machine) → (place : Place) → slice_get old job ≡ Some m → Means (engine m) (its job before) place → PinsTouched (residence (engine m)) place
    → has_missed result ≡ true → eased (residence (engine m)) ≡ residence (engine m)
DropsNoPins (Out job page) result old before = Unit {0}
DropsNoPins (Clean job) result old before = Unit {0}
