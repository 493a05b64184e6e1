use Rattle.vax_disasm.proofs.Instructions.{decoded}
use Rattle.vax_disasm.proofs.decode.Goals as goal

pub returns-clause-grammar : goal.returns-clause-grammar
returns-clause-grammar c = rw c.instruction.ensures.exact (decoded c.args.bytes.now c.args.addr)
