use Rattle.std.proofs.Common.{Some, sym, ap, ◌∙◌}
use Rattle.vax_isa.specs.declared.actions.Action.{Action}
use Rattle.vax_isa.specs.declared.actions.Action.TheVariants as action
use Rattle.vax_isa.specs.declared.actions.Control.TheVariants as shape
use Rattle.vax_flat.specs.Instruction.{acted_part}
use Rattle.vax_flat.specs.Control.{performed}
use Rattle.vax_quick.specs.Made.{computer}
use Rattle.vax_quick.proofs.Working.{as_action}
use Rattle.vax_quick.proofs.branches.subtract_one.Goals as goal

pub returns-clause-exact : goal.returns-clause-exact
unfolding acted_part performed
returns-clause-exact g c =
    let a : Action = action.Control (shape.SubtractOne c.in-Some-Control-SubtractOne.relation) in
    as_action g.row.OPCODE a c.count_down.result (computer g.P.Port.view c.args.core.now c.args.port.now) _
    (sym c.action.ensures.action ∙ (c.in-Some-Control-SubtractOne.is ∙ ap Some (c.in-Some-Control-SubtractOne.field-0-is ∙ ap action.Control c.in-Some-Control-SubtractOne.field-0-0-is)))
    c.count_down.ensures.exact
