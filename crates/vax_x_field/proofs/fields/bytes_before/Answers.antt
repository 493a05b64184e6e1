use Rattle.std.proofs.Common.{◌∙◌, arith}
use Rattle.vax_x_field.proofs.Positions.{shifted}
use Rattle.vax_x_field.proofs.fields.bytes_before.Goals as goal

pub returns : goal.returns
returns c = c.cast_unsigned.ensures ∙ shifted c.args.position _ (omega arith) c.cast_signed.ensures
