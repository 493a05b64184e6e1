use Rattle.std.proofs.Common.{Some, sym, ap, ◌∙◌}
use Rattle.vax_isa.specs.declared.actions.Action.{Action}
use Rattle.vax_isa.specs.declared.actions.Action.TheVariants as action
use Rattle.vax_isa.specs.declared.actions.Control.TheVariants as shape
use Rattle.vax_flat.specs.Instruction.{acted_part}
use Rattle.vax_flat.specs.Control.{performed}
use Rattle.vax_quick.specs.Made.{computer}
use Rattle.vax_quick.proofs.Working.{as_action}
use Rattle.vax_quick.proofs.branches.return_subroutine.Goals as goal

pub returns-clause-exact : goal.returns-clause-exact
unfolding acted_part performed
returns-clause-exact g c =
    let a : Action = action.Control shape.Return in
    as_action g.row.OPCODE a c.return_subroutine.result (computer g.P.Port.view c.args.core.now c.args.port.now) _
    (sym c.action.ensures.action ∙ (c.in-Some-Control-Return.is ∙ ap Some (c.in-Some-Control-Return.field-0-is ∙ ap action.Control c.in-Some-Control-Return.field-0-0-is)))
    c.return_subroutine.ensures.exact
