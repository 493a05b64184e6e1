use Rattle.vax_asm_scope.specs.View.{scope_in}
use Rattle.vax_asm_scope.proofs.Range.{linked_is_in}
use Rattle.vax_asm_scope.proofs.scope.Scope.link.Goals as goal

pub invariant_of-drop-clause-in_range : goal.invariant_of-drop-clause-in_range
invariant_of-drop-clause-in_range c =
    let before = c.replace-tables.result in
    linked_is_in c.args.linkage c.args.text.now (scope_in before.tables) (scope_in c.link.new.self) before.in_range c.in_ok-link.ensures.scope

pub invariant_of-drop-clause-mark_in_range : goal.invariant_of-drop-clause-mark_in_range
invariant_of-drop-clause-mark_in_range c = λ m h. c.replace-tables.result.mark_in_range m (c.link.ensures.mark m h)
