use Rattle.vax_asm_values.specs.View.{written_of}
use Rattle.vax_asm_scope.specs.View.{scope_in}
use Rattle.vax_asm_scope.proofs.Range.{assign_in}
use Rattle.vax_asm_scope.proofs.scope.Scope.assign.Goals as goal

pub invariant_of-drop-clause-in_range : goal.invariant_of-drop-clause-in_range
invariant_of-drop-clause-in_range c =
    let before = c.replace-tables.result in
    assign_in c.args.text.now (written_of c.args.expression) (scope_in before.tables) (scope_in c.assign.new.self) before.in_range c.in-Ok.ensures.scope

pub invariant_of-drop-clause-mark_in_range : goal.invariant_of-drop-clause-mark_in_range
invariant_of-drop-clause-mark_in_range c = λ m h. c.replace-tables.result.mark_in_range m (c.assign.ensures.mark m h)

pub invariant_of-drop-in-Err-Duplicate-clause-mark_in_range : goal.invariant_of-drop-in-Err-Duplicate-clause-mark_in_range
invariant_of-drop-in-Err-Duplicate-clause-mark_in_range c = λ m h. c.replace-tables.result.mark_in_range m (c.assign.ensures.mark m h)
