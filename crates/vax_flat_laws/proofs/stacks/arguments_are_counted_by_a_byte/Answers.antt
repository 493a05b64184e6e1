use Rattle.vax_flat_laws.proofs.Stacking.{arguments_taken}
use Rattle.vax_flat_laws.proofs.stacks.arguments_are_counted_by_a_byte.Goals as goal

pub returns : goal.returns
returns c = λ top s next memory fine byte. arguments_taken top s next memory fine byte
