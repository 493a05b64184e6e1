use Rattle.vax_x_field.proofs.BitLaws.{highest_some, highest_none}
use Rattle.vax_x_field.proofs.bits.is_negative_field.Goals as goal

pub returns-then-size-gt0 : goal.returns-then-size-gt0
returns-then-size-gt0 c = highest_some c.args.size c.args.field c.if-size-gt0.true c.requires.fits

pub returns-else-size-gt0 : goal.returns-else-size-gt0
returns-else-size-gt0 c = highest_none c.args.size c.args.field c.if-size-gt0.false
