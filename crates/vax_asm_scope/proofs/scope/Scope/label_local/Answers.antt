use Rattle.vax_asm_scope.specs.View.{scope_in}
use Rattle.vax_asm_scope.proofs.Range.{local_label_in}
use Rattle.vax_asm_scope.proofs.scope.Scope.label_local.Goals as goal

pub invariant_of-drop-clause-in_range : goal.invariant_of-drop-clause-in_range
invariant_of-drop-clause-in_range c =
    let before = c.replace-tables.result in
    local_label_in c.args.text.now c.args.value (scope_in before.tables) (scope_in c.label_local.new.self) before.in_range c.in-Ok.ensures.labels

pub invariant_of-drop-clause-mark_in_range : goal.invariant_of-drop-clause-mark_in_range
invariant_of-drop-clause-mark_in_range c = λ m h. c.replace-tables.result.mark_in_range m (c.label_local.ensures.mark m h)

pub invariant_of-drop-in-Err-Duplicate-clause-mark_in_range : goal.invariant_of-drop-in-Err-Duplicate-clause-mark_in_range
invariant_of-drop-in-Err-Duplicate-clause-mark_in_range c = λ m h. c.replace-tables.result.mark_in_range m (c.label_local.ensures.mark m h)
