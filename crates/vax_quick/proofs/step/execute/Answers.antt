use Rattle.vax_quick.proofs.Stays.{opcode_back}
use Rattle.vax_quick.proofs.step.execute.Goals as goal

pub returns-in-None-clause-exact : goal.returns-in-None-clause-exact
returns-in-None-clause-exact g c =
    opcode_back g.P.Port.view c.args.core.now c.fetch.new.core c.act_by_opcode.new.core c.args.port.now c.fetch.new.port c.act_by_opcode.new.port
    c.fetch.ensures.moved c.fetch.ensures.reads.same c.in-None.ensures.exact
