use Rattle.vax_quick.specs.Made.{computer}
use Rattle.vax_quick.proofs.Steps.{step_made}
use Rattle.vax_quick.proofs.step.step.Goals as goal

pub returns-in-Some-clause-made : goal.returns-in-Some-clause-made
returns-in-Some-clause-made g c = λ _.
    let view = g.P.Port.view in
    step_made (computer view c.args.core.now c.args.port.now) (computer view c.execute.new.core c.execute.new.port) c.requires.still c.execute.ensures.leaves.timer c.in-Some.ensures.exact
