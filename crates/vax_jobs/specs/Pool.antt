-- The machines of a pool, and what an event of one of them makes of all.
use Rattle.std.specs.Prelude.{ℕ, ◌≡◌, ◌≤◌, Option, Some, List, length, map, slice_get, slice_set}
use Rattle.std.specs.VecDeque.{deque_capacity}
use Rattle.vax_outside.specs.Blocks.{BlockFile}
use Rattle.vax_machine.specs.Events.{KeepsPins}
use Rattle.vax_machine.specs.Machine.{Applies, HasSpent, Keeping, KeepsPlace, keeping}
use Rattle.vax_machine.specs.Meaning.{engine}
use Rattle.vax_machine.specs.declared.event.Applied.{Applied}
use Rattle.vax_machine.specs.declared.event.Event.{Event}
use Rattle.vax_machine.specs.declared.machine.Machine.{Machine}
use Rattle.vax_window.specs.Windows.{its}
use Rattle.vax_jobs.specs.Pooling.{IsPooling, Pooling}
use Rattle.vax_jobs.specs.declared.pool.Pool.{Pool}

abbrev pub keeps_of : Machine → Keeping
keeps_of m = keeping (engine m)

-- what a pool keeps beside the flat machines
abbrev pub pooling_of : Pool → Pooling
pooling_of p = record { most = p.most; resident = p.residents.items; processes = map keeps_of p.machines.items }

-- and has room for
pub record IsPool (p : Pool) : Type 0 where
  pub sound : IsPooling (pooling_of p)
  pub room : p.most ≤ deque_capacity p.residents

-- nothing of what a machine stands for is lost, the files being those of its process
abbrev pub Keeps : ℕ → Machine → Option BlockFile → Machine → Option BlockFile → Type 0
Keeps job m before n after = KeepsPlace (engine m) (its job before) (engine n) (its job after)

-- nothing is lost of what any of them stands for
pub record AllKeep (old : List Machine) (before : Option BlockFile) (new : List Machine) (after : Option BlockFile) : Type 0 where
  pub count : length new ≡ length old
  pub each : (job : ℕ) → (m n : Machine) → slice_get old job ≡ Some m → slice_get new job ≡ Some n → Keeps job m before n after

-- the event happened to the machine of one process on its part of the file, and nothing of the others is lost
pub record HasApplied (job : ℕ) (event : Event) (result : Applied) (old : List Machine) (before : Option BlockFile) (new : List Machine) (after : Option BlockFile) : Type 0 where
  pub was : Machine
  pub is : Machine
  pub there : slice_get old job ≡ Some was
  pub changed : new ≡ slice_set old job is
  pub applies : Applies event (engine was) (its job before) result (engine is) (its job after)
  pub spends : HasSpent result (keeping (engine was)) (keeping (engine is))
  pub unsettled : KeepsPins (engine was) (its job before) result (engine is)
  pub others : (i : ℕ) → (i ≡ job → ⊥) → (m : Machine) → slice_get old i ≡ Some m → Keeps i m before m after
