use Rattle.std.proofs.Common.{◌∙◌, sym, arith}
use Rattle.vax_asm_encode.proofs.Writing.{byte_more, no_byte_more}
use Rattle.vax_asm_encode.proofs.bytes.write_number.Goals as goal

pub loop-left-preserved : goal.loop-left-preserved
loop-left-preserved c = rw c.in_ok-push.ensures (byte_more c.loop-left.out.items c.loop-left.left c.loop-left.rest c.loop-left-test.true ∙ c.loop-left.invariant)

pub returns : goal.returns
returns c = sym (no_byte_more c.loop-left.out.items c.loop-left.left c.loop-left.rest (omega arith)) ∙ c.loop-left.invariant
