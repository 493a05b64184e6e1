use Rattle.std.proofs.Common.{refl}
use Rattle.vax_isa.specs.Instructions.{instructions}
use Rattle.vax_isa.specs.Rows.{action_of, with_opcode}
use Rattle.vax_isa.proofs.table.slots.Goals as goal

pub returns : goal.returns
unfolding instructions with_opcode action_of
returns c = record { rows = refl; actions = refl; listings = refl }
