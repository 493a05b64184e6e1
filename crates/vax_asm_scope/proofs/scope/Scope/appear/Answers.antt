use Rattle.vax_asm_scope.specs.View.{scope_in}
use Rattle.vax_asm_scope.proofs.Range.{entry_is_in}
use Rattle.vax_asm_scope.proofs.scope.Scope.appear.Goals as goal

pub invariant_of-drop-clause-in_range : goal.invariant_of-drop-clause-in_range
invariant_of-drop-clause-in_range c =
    let before = c.replace-tables.result in
    entry_is_in c.args.text.now (scope_in before.tables) (scope_in c.entry.new.self) before.in_range c.in_ok-number.ensures.scope

pub invariant_of-drop-clause-mark_in_range : goal.invariant_of-drop-clause-mark_in_range
invariant_of-drop-clause-mark_in_range c = λ m h. c.replace-tables.result.mark_in_range m (c.entry.ensures.mark m h)
