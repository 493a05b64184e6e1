use Rattle.std.proofs.Common.{◌*◌}
use Rattle.vax_x_field.proofs.BitLaws.{part_is, part_number}
use Rattle.vax_x_field.proofs.bits.part.Goals as goal

pub returns-clause-bits : goal.returns-clause-bits
returns-clause-bits c = part_is c.args.holder.first c.args.size (8 * c.args.holder.width) c.args.held _ c.ones.ensures c.requires.within

pub returns-clause-number : goal.returns-clause-number
returns-clause-number c = part_number c.args.holder.first c.args.size (8 * c.args.holder.width) c.args.held _ c.ones.ensures c.requires.within
