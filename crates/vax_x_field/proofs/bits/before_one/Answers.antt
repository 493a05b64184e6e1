use Rattle.vax_x_field.proofs.BitLaws.{first_set}
use Rattle.vax_x_field.proofs.bits.before_one.Goals as goal

pub returns : goal.returns
returns c = first_set c.args.size c.args.field c.requires.short c.requires.fits
