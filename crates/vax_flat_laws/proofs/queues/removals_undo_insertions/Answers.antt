use Rattle.vax_flat_laws.proofs.Queueing.{links_alone}
use Rattle.vax_flat_laws.proofs.queues.removals_undo_insertions.Goals as goal

pub returns : goal.returns
returns c = λ entry predecessor n s t memory end o came. links_alone entry predecessor n s t memory end o came
