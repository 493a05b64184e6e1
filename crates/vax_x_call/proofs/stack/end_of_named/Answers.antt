use Rattle.std.proofs.Common.{arith}
use Rattle.vax_x_call.proofs.StackLaws.{none_from_4, none_from_8}
use Rattle.vax_x_call.proofs.stack.end_of_named.Goals as goal

pub returns-then-mask-eq0-clause-named : goal.returns-then-mask-eq0-clause-named
returns-then-mask-eq0-clause-named c = none_from_4 c.args.count c.args.mask (omega arith) c.requires (omega arith)

pub returns-then-mask-eq0-2-clause-named : goal.returns-then-mask-eq0-2-clause-named
returns-then-mask-eq0-2-clause-named c = none_from_8 c.args.count c.args.mask (omega arith) c.requires (omega arith)
