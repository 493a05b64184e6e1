use Rattle.vax_machine.proofs.Following.{paged_follows}
use Rattle.vax_machine.proofs.laws.turns_go_on.Goals as goal

pub returns : goal.returns
returns c = λ areas asks count b first start goes. paged_follows areas asks count b first start goes
