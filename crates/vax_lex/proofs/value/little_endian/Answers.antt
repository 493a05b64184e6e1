use Rattle.std.proofs.Common.{arith}
use Rattle.vax_lex.proofs.Bytes.{byte_fits}
use Rattle.vax_lex.proofs.value.little_endian.Goals as goal

pub overflow_add-value : goal.overflow_add-value
overflow_add-value c =
    omega (arith, byte_fits c.args.bytes.now c.loop-at.at c.loop-at.value c.loop-at-test.true c.loop-at.invariant.in_range c.requires (λ i. omega (arith, c.type_inv.bytes i)) c.loop-at.invariant.so_far, c.from.ensures)
