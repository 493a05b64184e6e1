use Rattle.vax_x_field.proofs.BitLaws.{one_bit}
use Rattle.vax_x_field.proofs.bits.with_bit.Goals as goal

pub returns-clause-bits : goal.returns-clause-bits
returns-clause-bits c = rw (← one_bit c.args.new, ← c.from.ensures) c.with_part.ensures.bits
