use Rattle.std.proofs.Common.{◌^◌, ◌<◌, refl, subst, arith}
use Rattle.vax_x_field.proofs.BitLaws.{changed_is, changed_fits}
use Rattle.vax_x_field.proofs.bits.with_part.Goals as goal

pub returns-clause-bits : goal.returns-clause-bits
returns-clause-bits c =
    changed_is c.args.holder.first c.args.size c.args.holder.width c.args.held c.args.new _ _ _ c.ones-2.ensures c.ones.ensures refl (omega arith) c.requires.within c.requires.fits (omega arith)

pub returns-clause-fits : goal.returns-clause-fits
returns-clause-fits c =
    subst (λ x. x < 256 ^ c.args.holder.width)
    (changed_is c.args.holder.first c.args.size c.args.holder.width c.args.held c.args.new _ _ _ c.ones-2.ensures c.ones.ensures refl (omega arith) c.requires.within c.requires.fits (omega arith))
    (changed_fits c.args.holder.first c.args.size c.args.holder.width c.args.held c.args.new c.requires.within)
