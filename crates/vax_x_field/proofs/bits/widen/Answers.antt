use Rattle.std.proofs.Common.{refl}
use Rattle.vax_x_field.proofs.BitLaws.{signed_is, unsigned_is}
use Rattle.vax_x_field.proofs.bits.widen.Goals as goal
use Rattle.vax_x_field.proofs.bits.widen.Goals.{else-signed-via-then-signed+else-negative, else-signed-via-else-signed}

pub returns-then-negative-clause-exact : goal.returns-then-negative-clause-exact
returns-then-negative-clause-exact c = signed_is c.args.signed c.is_negative_field-negative.result c.args.size c.args.field c.requires.short c.requires.fits c.is_negative_field-negative.ensures (cc)

pub returns-else-signed-clause-exact : goal.returns-else-signed-clause-exact
returns-else-signed-clause-exact c =
    unsigned_is c.args.signed c.is_negative_field-negative.result c.args.size c.args.field c.requires.fits c.is_negative_field-negative.ensures
    (elim c.else-signed.branch [ else-signed-via-then-signed+else-negative w ↦ rw (w.if-signed.true, w.if-negative.false) refl | else-signed-via-else-signed w ↦ rw w.if-signed.false refl ])
