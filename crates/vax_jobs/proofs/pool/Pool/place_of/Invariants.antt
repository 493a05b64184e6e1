use Rattle.std.proofs.Common.{◌≡◌, drop}
use Rattle.vax_jobs.specs.Pooling.{is_there}
use Rattle.vax_jobs.proofs.pool.Pool.place_of.Given as goal

-- none of the pages before this place is the one
abbrev pub invariant-loop-place : goal.invariant-loop-place
invariant-loop-place l = is_there l.self.residents.items l.job l.page ≡ is_there (drop l.place l.self.residents.items) l.job l.page
