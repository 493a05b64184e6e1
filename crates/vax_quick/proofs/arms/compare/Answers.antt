use Rattle.std.proofs.Common.{Some, sym, ap, subst, ◌∙◌}
use Rattle.vax_isa.specs.declared.actions.Action.{Action}
use Rattle.vax_isa.specs.declared.actions.Action.TheVariants as action
use Rattle.vax_isa.specs.declared.actions.Integer.TheVariants as integer
use Rattle.vax_flat.specs.Instruction.{acted_part}
use Rattle.vax_word.specs.declared.Size.{Size}
use Rattle.vax_flat.specs.Integer.{performed, compare}
use Rattle.vax_quick.specs.Made.{Makes, computer}
use Rattle.vax_quick.proofs.Working.{as_action, left_unless, made_at_once}
use Rattle.vax_quick.proofs.arms.compare.Goals as goal

pub returns-clause-exact : goal.returns-clause-exact
unfolding acted_part performed
returns-clause-exact g c =
    let a : Action = action.Integer (integer.Compare c.in-Some-Integer-Compare.size) in
    as_action g.row.OPCODE a c.unless_made.result (computer g.P.Port.view c.args.core.now c.args.port.now) _
    (sym c.action.ensures.action ∙ (c.in-Some-Integer-Compare.is ∙ ap Some (c.in-Some-Integer-Compare.field-0-is ∙ ap action.Integer c.in-Some-Integer-Compare.field-0-0-is)))
    (c.unless_made.ensures.exact (acted_part a) c.args.port.now
    (subst (λ (z : Size). Makes (compare z) c.done-made.result (computer g.P.Port.view c.args.core.now c.args.port.now) (computer g.P.Port.view c.core-1.given.0 c.port-1.given.0)) c.into.ensures
    (made_at_once g.P.Port.view g.P.Port.since (compare c.into.result) 9 c.compare.result c.done-made.result _ c.compare.new.w _ _
    c.compare.ensures.exact c.compare.ensures.stays c.compare.ensures.follows c.done-made.ensures c.compare.ensures.moves (search) (search))))

pub returns-clause-leaves : goal.returns-clause-leaves
returns-clause-leaves g c =
    left_unless g.P.Port.view g.P.Port.since 9 _ c.compare.new.w c.core-1.given.0 _ _ c.compare.ensures.moves c.unless_made.ensures.timer c.unless_made.ensures.requests c.unless_made.ensures.clock
    c.unless_made.ensures.closed (search) (search)
