use Rattle.vax_flat_laws.proofs.Queueing.{emptiness}
use Rattle.vax_flat_laws.proofs.queues.removals_tell_emptiness.Goals as goal

pub returns : goal.returns
returns c = λ entry n s t memory end came. emptiness entry n s t memory end came
