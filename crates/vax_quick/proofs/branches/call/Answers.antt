use Rattle.std.proofs.Common.{Some, sym, ap, ◌∙◌}
use Rattle.vax_isa.specs.declared.actions.Action.{Action}
use Rattle.vax_isa.specs.declared.actions.Action.TheVariants as action
use Rattle.vax_isa.specs.declared.actions.Call.TheVariants as shape
use Rattle.vax_flat.specs.Instruction.{acted_part}
use Rattle.vax_flat.specs.Call.{performed}
use Rattle.vax_quick.specs.Made.{computer}
use Rattle.vax_quick.proofs.Working.{as_action}
use Rattle.vax_quick.proofs.branches.call.Goals as goal

pub returns-clause-exact : goal.returns-clause-exact
unfolding acted_part performed
returns-clause-exact g c =
    let a : Action = action.Call shape.WithStack in
    as_action g.row.OPCODE a c.unless_made.result (computer g.P.Port.view c.args.core.now c.args.port.now) _
    (sym c.action.ensures.action ∙ (c.in-Some-Call-WithStack.is ∙ ap Some (c.in-Some-Call-WithStack.field-0-is ∙ ap action.Call c.in-Some-Call-WithStack.field-0-0-is)))
    (c.unless_made.ensures.exact (acted_part a) c.args.port.now c.call_with_stack-made.ensures.exact)
