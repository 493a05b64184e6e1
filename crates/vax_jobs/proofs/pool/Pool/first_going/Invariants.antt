use Rattle.std.proofs.Common.{◌≡◌, drop}
use Rattle.vax_jobs.specs.Pool.{pooling_of}
use Rattle.vax_jobs.specs.Running.{going}
use Rattle.vax_jobs.specs.Shared.{first_going}
use Rattle.vax_jobs.proofs.pool.Pool.first_going.Given as goal

-- no line in front of this one is of a process that goes on
abbrev pub invariant-loop-line : goal.invariant-loop-line
invariant-loop-line l = first_going (going l.steps (pooling_of l.self)) l.from (drop l.from l.order) ≡ first_going (going l.steps (pooling_of l.self)) l.line (drop l.line l.order)
