use Rattle.vax_machine.proofs.Following.{turns_follow}
use Rattle.vax_machine.proofs.laws.turns_follow_the_run.Goals as goal

pub returns : goal.returns
returns c = λ r n. turns_follow r n
