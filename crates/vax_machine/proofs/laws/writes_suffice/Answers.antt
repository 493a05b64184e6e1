use Rattle.vax_machine.proofs.Unwritten.{writes_suffice}
use Rattle.vax_machine.proofs.laws.writes_suffice.Goals as goal

pub returns : goal.returns
returns c = λ r n absent page small clean. writes_suffice r n absent page small clean
