use Rattle.vax_debug.proofs.Leading.{is_evaluated}
use Rattle.vax_debug.proofs.values.evaluate.Goals as goal

pub returns-in-Ok-clause-tells : goal.returns-in-Ok-clause-tells
returns-in-Ok-clause-tells g c = λ sink o s replies here.
    is_evaluated c.args.legend.now c.args.expression.now s.machine c.in-Ok.found c.plus.result (c.in-Ok.ensures.tells sink o s replies here) c.plus.ensures
