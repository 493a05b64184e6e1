use Rattle.vax_flat_units.proofs.Resuming.{resumed_right}
use Rattle.vax_flat_units.proofs.later_parts_count_units.Goals as goal

pub returns : goal.returns
returns c = λ opcode s memory next behind can. resumed_right opcode s memory next behind can.full can.words can.unreserved
