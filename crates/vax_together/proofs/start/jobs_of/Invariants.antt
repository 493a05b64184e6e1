use Rattle.std.proofs.Common.{◌≡◌, map, take}
use Rattle.std.specs.List.{All}
use Rattle.vax_jobs.specs.Beginning.{start_of}
use Rattle.vax_together.specs.Starting.{HasInput, starts_of}
use Rattle.vax_together.proofs.start.jobs_of.Given as goal

-- the processes so far were made
abbrev pub invariant-loop-user : goal.invariant-loop-user
invariant-loop-user l = record {
  starts : map start_of l.jobs.items ≡ starts_of l.system (take l.user-index l.users) l.input;
  inputs : All (HasInput l.input) l.jobs.items;
}
