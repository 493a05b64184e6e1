use Rattle.vax_outside.specs.Faults.{no_failures}
use Rattle.vax_machine.proofs.Ending.{lost_prefix, lost_write}
use Rattle.vax_machine.proofs.held.Held.write_all.Goals as goal

pub returns-in-Ok-clause-counts : goal.returns-in-Ok-clause-counts
returns-in-Ok-clause-counts g c = (c.in-Ok.ensures.counts no_failures).sink

pub returns-in-Err-clause-prefix : goal.returns-in-Err-clause-prefix
returns-in-Err-clause-prefix g c = lost_prefix c.in-Err.field-0 _ _ _ c.in-Err.ensures.puts

pub returns-in-Err-clause-counts : goal.returns-in-Err-clause-counts
returns-in-Err-clause-counts g c = lost_write c.in-Err.field-0 _ _ _ c.in-Err.ensures.puts no_failures _ _ (c.in-Err.ensures.counts no_failures)
