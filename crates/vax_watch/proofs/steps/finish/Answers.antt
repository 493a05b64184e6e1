use Rattle.std.proofs.Common.{refl, inl, inr}
use Rattle.vax_outside.proofs.Counting.{counts_then}
use Rattle.vax_watch.proofs.Counted.{fine_write}
use Rattle.vax_watch.proofs.steps.finish.Goals as goal

pub returns-in-Ok-clause-done : goal.returns-in-Ok-clause-done
returns-in-Ok-clause-done g c = inl (refl, c.in-Ok.ensures.ok)

pub returns-in-Ok-clause-counts : goal.returns-in-Ok-clause-counts
returns-in-Ok-clause-counts g c = counts_then (fine_write c.args.end c.requires) refl c.in-Ok.ensures.counts

pub returns-in-Err-clause-done : goal.returns-in-Err-clause-done
returns-in-Err-clause-done g c = inr (refl, c.in-Err.ensures.prefix)
