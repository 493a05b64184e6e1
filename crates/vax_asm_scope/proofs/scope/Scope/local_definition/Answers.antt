use Rattle.vax_asm_scope.specs.View.{scope_in}
use Rattle.vax_asm_scope.proofs.Range.{local_is_in}
use Rattle.vax_asm_scope.proofs.scope.Scope.local_definition.Goals as goal

pub invariant_of-drop-clause-in_range : goal.invariant_of-drop-clause-in_range
invariant_of-drop-clause-in_range c =
    let before = c.replace-tables.result in
    local_is_in c.args.text.now (scope_in before.tables) (scope_in c.local_meaning.new.self) before.in_range c.in_ok-definition.ensures.scope

pub invariant_of-drop-clause-mark_in_range : goal.invariant_of-drop-clause-mark_in_range
invariant_of-drop-clause-mark_in_range c = λ m h. c.replace-tables.result.mark_in_range m (c.local_meaning.ensures.mark m h)
