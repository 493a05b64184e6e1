use Rattle.vax_flat.specs.Control.{performed}
use Rattle.vax_quick.proofs.Working.{left_at_once, made_at_once}
use Rattle.vax_quick.proofs.control.perform.Goals as goal

pub returns-clause-exact : goal.returns-clause-exact
returns-clause-exact g c =
    made_at_once g.P.Port.view g.P.Port.since (performed c.args.instruction) 20 c.perform.result c.done.result _ c.perform.new.w _ _
    c.perform.ensures.exact c.perform.ensures.stays c.perform.ensures.follows c.done.ensures c.perform.ensures.moves (search) (search)

pub returns-clause-leaves : goal.returns-clause-leaves
returns-clause-leaves g c = left_at_once g.P.Port.view g.P.Port.since 20 _ c.perform.new.w _ _ c.perform.ensures.moves (search) (search)
