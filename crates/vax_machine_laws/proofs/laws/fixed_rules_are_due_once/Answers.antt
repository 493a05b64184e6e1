use Rattle.vax_machine_laws.proofs.Fixing.{fixed_due}
use Rattle.vax_machine_laws.proofs.laws.fixed_rules_are_due_once.Goals as goal

pub returns : goal.returns
returns c = λ areas rules count fixed. fixed_due areas rules count fixed
