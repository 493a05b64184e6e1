use Rattle.vax_machine.proofs.Outputs.{pass_nothing}
use Rattle.vax_machine.proofs.held.make_space.Goals as goal

pub returns-clause-passes : goal.returns-clause-passes
returns-clause-passes g c = pass_nothing _ _
