use Rattle.vax_machine.proofs.Bound.{turns_bounded}
use Rattle.vax_machine.proofs.laws.turns_are_few.Goals as goal

pub returns : goal.returns
returns c = λ r n proper low. turns_bounded r n proper low
