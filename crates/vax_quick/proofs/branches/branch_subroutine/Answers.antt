use Rattle.std.proofs.Common.{Some, sym, ap, ◌∙◌}
use Rattle.vax_isa.specs.declared.actions.Action.{Action}
use Rattle.vax_isa.specs.declared.actions.Action.TheVariants as action
use Rattle.vax_isa.specs.declared.actions.Control.TheVariants as shape
use Rattle.vax_flat.specs.Instruction.{acted_part}
use Rattle.vax_flat.specs.Control.{performed}
use Rattle.vax_quick.specs.Made.{computer}
use Rattle.vax_quick.proofs.Working.{as_action, left_unless, made_at_once}
use Rattle.vax_quick.proofs.branches.branch_subroutine.Goals as goal

pub returns-clause-exact : goal.returns-clause-exact
unfolding acted_part performed
returns-clause-exact g c =
    let a : Action = action.Control (shape.BranchSubroutine c.in-Some-Control-BranchSubroutine.size) in
    as_action g.row.OPCODE a c.unless_made.result (computer g.P.Port.view c.args.core.now c.args.port.now) _
    (sym c.action.ensures.action ∙ (c.in-Some-Control-BranchSubroutine.is ∙ ap Some (c.in-Some-Control-BranchSubroutine.field-0-is ∙ ap action.Control c.in-Some-Control-BranchSubroutine.field-0-0-is)))
    (c.unless_made.ensures.exact (acted_part a) c.args.port.now
    (made_at_once g.P.Port.view g.P.Port.since (acted_part a) 7 c.branch_subroutine.result c.done-made.result _ c.branch_subroutine.new.w _ _
    c.branch_subroutine.ensures.exact c.branch_subroutine.ensures.stays c.branch_subroutine.ensures.follows c.done-made.ensures c.branch_subroutine.ensures.moves (search) (search)))

pub returns-clause-leaves : goal.returns-clause-leaves
returns-clause-leaves g c =
    left_unless g.P.Port.view g.P.Port.since 7 _ c.branch_subroutine.new.w c.core-1.given.0 _ _ c.branch_subroutine.ensures.moves c.unless_made.ensures.timer c.unless_made.ensures.requests c.unless_made.ensures.clock
    c.unless_made.ensures.closed (search) (search)
