use Rattle.vax_machine.proofs.Following.{events_follow}
use Rattle.vax_machine.proofs.laws.events_follow_the_run.Goals as goal

pub returns : goal.returns
returns c = λ events old new before after first start low h f. events_follow events old new before after first start low h f
