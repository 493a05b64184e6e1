use Rattle.std.proofs.Common.{arith}
use Rattle.vax_strpart.proofs.LaneLaws.{translate_more}
use Rattle.vax_strpart.proofs.kernels.translate.Goals as goal

pub loop-byte-preserved : goal.loop-byte-preserved
loop-byte-preserved c = translate_more c.args.table.now c.args.s.now c.loop-byte.s c.loop-byte.byte-index (omega arith) c.loop-byte.invariant
