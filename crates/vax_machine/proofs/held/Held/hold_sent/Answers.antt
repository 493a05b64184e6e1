use Rattle.vax_machine.proofs.Outputs.{pass_nothing, writes_nothing}
use Rattle.vax_machine.proofs.held.Held.hold_sent.Goals as goal

pub returns-in-None-clause-passes : goal.returns-in-None-clause-passes
returns-in-None-clause-passes g c = rw c.in-None.is (pass_nothing _ _)

pub returns-in-None-clause-still : goal.returns-in-None-clause-still
returns-in-None-clause-still g c = writes_nothing _ _
