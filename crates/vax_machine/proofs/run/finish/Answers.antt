use Rattle.vax_outside.specs.Faults.{no_failures}
use Rattle.vax_machine.proofs.Passing.{finish_lost}
use Rattle.vax_machine.proofs.run.finish.Goals as goal

pub returns-in-Ok-clause-later : goal.returns-in-Ok-clause-later
returns-in-Ok-clause-later g c = (c.write.ensures.counts no_failures).sink.later

pub returns-in-Ok-clause-quiet : goal.returns-in-Ok-clause-quiet
returns-in-Ok-clause-quiet g c = λ other. (c.in-Ok.ensures.counts no_failures).sink.quiet

pub returns-in-Err-clause-done : goal.returns-in-Err-clause-done
returns-in-Err-clause-done g c = finish_lost c.args.end c.in-Err.field-0 _ _ _ no_failures _ _ c.in-Err.ensures.puts (c.in-Err.ensures.counts no_failures)

pub returns-in-Err-clause-later : goal.returns-in-Err-clause-later
returns-in-Err-clause-later g c = (c.write.ensures.counts no_failures).sink.later
