use Rattle.vax_machine.proofs.Bound.{never_spoiled}
use Rattle.vax_machine.proofs.laws.pinned_pages_stay.Goals as goal

pub returns : goal.returns
returns c = λ r n idle. never_spoiled r n idle
