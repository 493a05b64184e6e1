use Rattle.vax_debug.proofs.Travelling.{travels_first}
use Rattle.vax_debug.proofs.laws.travels_are_steps.Goals as goal

pub returns : goal.returns
returns c = λ count stops s. travels_first count stops s
