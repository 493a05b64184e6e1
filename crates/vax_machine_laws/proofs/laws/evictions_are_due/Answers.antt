use Rattle.vax_machine_laws.proofs.Spoiling.{due_spoiled}
use Rattle.vax_machine_laws.proofs.laws.evictions_are_due.Goals as goal

pub returns : goal.returns
returns c = λ limits r count goes. due_spoiled limits r count goes
