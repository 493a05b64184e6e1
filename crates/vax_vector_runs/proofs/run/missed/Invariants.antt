use Rattle.std.proofs.Common.{◌≡◌, drop}
use Rattle.vax_vectors.specs.Truth.{first_out, resident_of}
use Rattle.vax_vector_runs.proofs.run.missed.Given as goal

-- the first absent one from here on is the first of all
abbrev pub invariant-loop-page : goal.invariant-loop-page
invariant-loop-page l = first_out (resident_of l.absent) (drop l.page-index l.touched) ≡ first_out (resident_of l.absent) l.touched
