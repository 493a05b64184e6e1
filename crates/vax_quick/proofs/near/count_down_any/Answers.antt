use Rattle.vax_flat.specs.Control.{subtract_one}
use Rattle.vax_quick.proofs.Working.{left_unless, made_at_once}
use Rattle.vax_quick.proofs.near.count_down_any.Goals as goal

pub returns-clause-exact : goal.returns-clause-exact
returns-clause-exact g c =
    c.unless_made.ensures.exact (subtract_one c.args.relation) c.args.port.now
    (made_at_once g.P.Port.view g.P.Port.since (subtract_one c.args.relation) 12 c.subtract_one.result c.done-made.result _ c.subtract_one.new.w _ _
    c.subtract_one.ensures.exact c.subtract_one.ensures.stays c.subtract_one.ensures.follows c.done-made.ensures c.subtract_one.ensures.moves (search) (search))

pub returns-clause-leaves : goal.returns-clause-leaves
returns-clause-leaves g c =
    left_unless g.P.Port.view g.P.Port.since 12 _ c.subtract_one.new.w c.core-1.given.0 _ _ c.subtract_one.ensures.moves c.unless_made.ensures.timer c.unless_made.ensures.requests c.unless_made.ensures.clock
    c.unless_made.ensures.closed (search) (search)
