use Rattle.std.proofs.Common.{refl}
use Rattle.vax_debug_views.proofs.Telling.{write_counts}
use Rattle.vax_debug_views.proofs.watches.show_watches.Goals as goal

pub returns-in-Ok-clause-counts : goal.returns-in-Ok-clause-counts
returns-in-Ok-clause-counts g c = λ file. (refl, c.in-Ok.ensures.counts.quiet)

pub returns-in-Err-clause-counts : goal.returns-in-Err-clause-counts
returns-in-Err-clause-counts g c = λ file. write_counts file _ _ c.in-Err.ensures.counts
