use Rattle.vax_flat_laws.proofs.Queueing.{probed_codes}
use Rattle.vax_flat_laws.proofs.queues.probes_keep_the_carry.Goals as goal

pub returns : goal.returns
returns c = λ writing mode length base s t memory end came. probed_codes writing mode length base s t memory end came
