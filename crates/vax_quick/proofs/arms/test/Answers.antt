use Rattle.std.proofs.Common.{Some, sym, ap, subst, ◌∙◌}
use Rattle.vax_isa.specs.declared.actions.Action.{Action}
use Rattle.vax_isa.specs.declared.actions.Action.TheVariants as action
use Rattle.vax_isa.specs.declared.actions.Integer.TheVariants as integer
use Rattle.vax_flat.specs.Instruction.{acted_part}
use Rattle.vax_word.specs.declared.Size.{Size}
use Rattle.vax_flat.specs.Integer.{performed, test_value}
use Rattle.vax_quick.specs.Made.{Makes, computer}
use Rattle.vax_quick.proofs.Working.{as_action, left_unless, made_at_once}
use Rattle.vax_quick.proofs.arms.test.Goals as goal

pub returns-clause-exact : goal.returns-clause-exact
unfolding acted_part performed
returns-clause-exact g c =
    let a : Action = action.Integer (integer.Test c.in-Some-Integer-Test.size) in
    as_action g.row.OPCODE a c.unless_made.result (computer g.P.Port.view c.args.core.now c.args.port.now) _
    (sym c.action.ensures.action ∙ (c.in-Some-Integer-Test.is ∙ ap Some (c.in-Some-Integer-Test.field-0-is ∙ ap action.Integer c.in-Some-Integer-Test.field-0-0-is)))
    (c.unless_made.ensures.exact (acted_part a) c.args.port.now
    (subst (λ (z : Size). Makes (test_value z) c.done-made.result (computer g.P.Port.view c.args.core.now c.args.port.now) (computer g.P.Port.view c.core-1.given.0 c.port-1.given.0)) c.into.ensures
    (made_at_once g.P.Port.view g.P.Port.since (test_value c.into.result) 5 c.test.result c.done-made.result _ c.test.new.w _ _
    c.test.ensures.exact c.test.ensures.stays c.test.ensures.follows c.done-made.ensures c.test.ensures.moves (search) (search))))

pub returns-clause-leaves : goal.returns-clause-leaves
returns-clause-leaves g c =
    left_unless g.P.Port.view g.P.Port.since 5 _ c.test.new.w c.core-1.given.0 _ _ c.test.ensures.moves c.unless_made.ensures.timer c.unless_made.ensures.requests c.unless_made.ensures.clock
    c.unless_made.ensures.closed (search) (search)
