use Rattle.vax_machine.proofs.Delivering.{comes_soon}
use Rattle.vax_machine.proofs.laws.output_comes_soon.Goals as goal

pub returns : goal.returns
returns c = λ since steps before after old new waits d left. comes_soon since steps before after old new waits d left
