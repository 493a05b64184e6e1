use Rattle.vax_machine.proofs.Bound.{parts_end}
use Rattle.vax_machine.proofs.laws.parts_end_soon.Goals as goal

pub returns : goal.returns
returns c = λ r n more proper low parts. parts_end r n more proper low parts
