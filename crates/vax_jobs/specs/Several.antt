-- Several turns of one process in a row.
use Rattle.std.specs.Prelude.{ℕ, zero, suc, ◌≡◌, ◌+◌, ◌^◌, ◌<◌, ◌≤◌, true, Option, Some, Result, Ok, Err, List, slice_get, slice_set}
use Rattle.vax_outside.specs.Channels.{Channels, GrewByPrefix, only}
use Rattle.vax_outside.specs.declared.traits.Chan.TheVariants.{Out}
use Rattle.vax_machine.specs.Batch.{HasAdvanced}
use Rattle.vax_machine.specs.Meaning.{engine}
use Rattle.vax_machine.specs.declared.machine.Machine.{Machine}
use Rattle.vax_jobs.specs.Running.{IsAt, IsStuck, MayGo, System, Tracks}
use Rattle.vax_jobs.specs.Sending.{Sends}
use Rattle.vax_jobs.specs.Shared.{Shared, bytes_sent, goes, tried}
use Rattle.vax_jobs.specs.declared.ends.Fault.{Fault}
use Rattle.vax_jobs.specs.declared.ends.Fault.TheVariants.{Page, Write}

-- the machine of one process made so many attempts, each of which completes a step with no byte sent, within a limit of steps
pub record GoesOnAtOnce (job count limit : ℕ) (old new : List Machine) : Type 0 where
  pub was : Machine
  pub is : Machine
  pub there : slice_get old job ≡ Some was
  pub changed : new ≡ slice_set old job is
  pub within : (engine was).steps + count ≤ limit
  pub counted : (engine was).turns + count < 2 ^ 64
  pub advanced : HasAdvanced count (engine was) (engine is)

-- so many attempts of a process
unfoldable pub tried_times : (most job : ℕ) → ℕ → Shared → Shared
tried_times most job zero s = s
tried_times most job (suc count) s = tried most job (tried_times most job count s)

-- it goes on before each of them
pub record KeepsGoing (limit most job count : ℕ) (s : Shared) : Type 0 where
  pub goes : (i : ℕ) → i < count → goes limit (tried_times most job i s).processes job ≡ true

-- so many attempts were made, at most `times`
pub record HasMade (times limit job count : ℕ) (first : Option Channels) (s : Shared) (new : System) (left : List ℕ) (now : Option Channels) : Type 0 where
  pub some : 1 ≤ count
  pub few : count ≤ times
  pub going : KeepsGoing limit new.pooling.most job count s
  pub at : IsAt first (tried_times new.pooling.most job count s) new left now

-- a call of the page file failed in the attempt behind so many
pub record IsCaught (times limit job : ℕ) (first : Option Channels) (s : Shared) (new : System) (left : List ℕ) (now : Option Channels) : Type 0 where
  pub count : ℕ
  pub few : count < times
  pub going : KeepsGoing limit new.pooling.most job (suc count) s
  pub stuck : IsStuck (tried_times new.pooling.most job count s) new
  pub sends : Sends first (bytes_sent (tried_times new.pooling.most job count s)) left now

-- a write failed: a prefix of what these attempts send was written
pub record IsBroken (times limit job : ℕ) (first : Option Channels) (s : Shared) (new : System) (now : Option Channels) : Type 0 where
  pub count : ℕ
  pub few : count < times
  pub going : KeepsGoing limit new.pooling.most job (suc count) s
  pub tracks : Tracks new (tried_times new.pooling.most job (suc count) s)
  pub wrote : GrewByPrefix first now (only Out (bytes_sent (tried_times new.pooling.most job (suc count) s)))

abbrev pub SeveralTo : Result ℕ Fault → (times limit job : ℕ) → (first : Option Channels) → Shared → System → List ℕ → Option Channels → Type 0
SeveralTo (Ok count) times limit job first s new left now = HasMade times limit job count first s new left now
SeveralTo (Err Page) times limit job first s new left now = IsCaught times limit job first s new left now
SeveralTo (Err Write) times limit job first s new left now = IsBroken times limit job first s new now

-- from wherever the processes are
abbrev pub MakesTurns : Result ℕ Fault → (times limit job : ℕ) → System → List ℕ → Option Channels → System → List ℕ → Option Channels → Type 0
MakesTurns result times limit job old held before new left now =
    (first : Option Channels) → (s : Shared) → MayGo limit job s → IsAt first s old held before →
    SeveralTo result times limit job first s new left now
