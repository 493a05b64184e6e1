use Rattle.std.proofs.Common.{◌≡◌, drop}
use Rattle.vax_jobs.specs.Pool.{pooling_of}
use Rattle.vax_jobs.specs.Pooling.{first_free}
use Rattle.vax_jobs.proofs.pool.Pool.first_free.Given as goal

-- the pages before this place are pinned
abbrev pub invariant-loop-place : goal.invariant-loop-place
invariant-loop-place l =
    first_free (pooling_of l.self).processes l.self.residents.items ≡ first_free (pooling_of l.self).processes (drop l.place l.self.residents.items)
