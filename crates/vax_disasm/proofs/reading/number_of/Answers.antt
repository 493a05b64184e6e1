use Rattle.std.proofs.Common.{arith}
use Rattle.vax_disasm.proofs.Numbers.{byte_fits, value_whole}
use Rattle.vax_disasm.proofs.reading.number_of.Goals as goal

pub overflow_mul-value : goal.overflow_mul-value
overflow_mul-value c =
    omega (arith, byte_fits c.args.bytes.now c.loop-at.at c.loop-at.value c.loop-at-test.true c.loop-at.invariant.in_range c.requires (λ i. omega (arith, c.type_inv.bytes i)) c.loop-at.invariant.so_far)

pub overflow_add-value : goal.overflow_add-value
overflow_add-value c =
    omega (arith, byte_fits c.args.bytes.now c.loop-at.at c.loop-at.value c.loop-at-test.true c.loop-at.invariant.in_range c.requires (λ i. omega (arith, c.type_inv.bytes i)) c.loop-at.invariant.so_far, c.from.ensures)

pub returns-clause-fits : goal.returns-clause-fits
returns-clause-fits c = value_whole c.args.bytes.now c.loop-at.at c.loop-at.value (omega arith) c.loop-at.invariant.so_far (λ i. omega (arith, c.type_inv.bytes i))
