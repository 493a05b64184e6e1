-- Processes at the start.
use Rattle.std.specs.Prelude.{ℕ, ◌≡◌, ◌≤◌, ◌*◌, Some, List, []}
use Rattle.std.specs.List.{AllZip}
use Rattle.vax_outside.specs.Blocks.{BlockFile}
use Rattle.vax_flat.specs.Parts.{At}
use Rattle.vax_flat.specs.Step.{Flat}
use Rattle.vax_machine.specs.Events.{FollowsRun}
use Rattle.vax_machine.specs.Machine.{Means, keeping}
use Rattle.vax_machine.specs.Meaning.{engine, flat_start}
use Rattle.vax_machine.specs.Paged.{fresh}
use Rattle.vax_machine.specs.Run.{begun}
use Rattle.vax_machine.specs.declared.machine.Machine.{Machine}
use Rattle.vax_jobs.specs.declared.job.Job.{Job}
use Rattle.vax_jobs.specs.declared.jobs.Jobs.{Jobs}
use Rattle.vax_jobs.specs.Pool.{pooling_of}
use Rattle.vax_jobs.specs.Pooling.{Pooling}

-- the flat machine with which a process begins
abbrev pub start_of : Job → Flat
start_of job = flat_start job.core job.space job.input.items

-- the machine of a process at the start: with any page file it stands for that flat machine, and nothing is resident or counted
pub record IsFresh (most : ℕ) (job : Job) (m : Machine) : Type 0 where
  pub means : (file : BlockFile) → Means (engine m) (Some file) (At (start_of job))
  pub starts : begun (engine m) (At (start_of job)) ≡ fresh most (start_of job)
  pub follows : (file : BlockFile) → FollowsRun (engine m) (Some file) (start_of job)
  pub areas : (keeping (engine m)).areas ≡ job.space

-- the machines of processes
abbrev pub machines : Jobs → List Machine
machines r = r.pool.machines.items

-- what they keep beside the flat machines, with their resident pages
abbrev pub pooling : Jobs → Pooling
pooling r = pooling_of r.pool

-- 1 to 8 processes
abbrev pub IsCount : ℕ → Type 0
IsCount count = (1 ≤ count) × (count ≤ 8)

-- so many processes may have so many resident pages together
abbrev pub IsMost : ℕ → ℕ → Type 0
IsMost count most = (64 * count ≤ most) × (most ≤ 32768)

-- each process begins
pub record Begins (jobs : List Job) (most : ℕ) (r : Jobs) : Type 0 where
  pub bound : (pooling r).most ≡ most
  pub resident : (pooling r).resident ≡ []
  pub fresh : AllZip (IsFresh most) jobs (machines r)
