use Rattle.std.proofs.Common.{◌+◌, ◌≤◌, length}
use Rattle.std.specs.Prelude.{vec_capacity}
use Rattle.std.specs.List.{All}
use Rattle.vax_jobs.proofs.Starting.{HasMade}
use Rattle.vax_jobs.proofs.job.machines_of.Given as goal

-- the machines of the first jobs were made
abbrev pub invariant-loop-job : goal.invariant-loop-job
invariant-loop-job l = record {
  made : HasMade l.pool l.fn.jobs.items l.left.items l.machines.items;
  short : All (λ j. length j.input.items ≤ 4194304) l.left.items;
  room : length l.machines.items + length l.left.items ≤ vec_capacity l.machines;
}

abbrev pub decreases-loop-job : goal.decreases-loop-job
decreases-loop-job l = length l.left.items
