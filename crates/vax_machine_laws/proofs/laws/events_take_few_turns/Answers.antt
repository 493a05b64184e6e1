use Rattle.vax_machine_laws.proofs.Happening.{events_take_few}
use Rattle.vax_machine_laws.proofs.laws.events_take_few_turns.Goals as goal

pub returns : goal.returns
returns c = λ list old new before after first start low follows sound happen few short. events_take_few list old new before after first start low follows sound happen few short
