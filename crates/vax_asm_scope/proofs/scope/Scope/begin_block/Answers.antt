use Rattle.std.proofs.Common.{ap}
use Rattle.vax_asm_names.specs.Names.{Names}
use Rattle.vax_asm_names.specs.View.{names_of, marked_names}
use Rattle.vax_asm_scope.specs.View.{scope_in}
use Rattle.vax_asm_values.specs.Definitions.{sources_of, marked_sources}
use Rattle.vax_asm_scope.proofs.Marking.{names_kept}
use Rattle.vax_asm_scope.proofs.Range.{block_is_in}
use Rattle.vax_asm_scope.proofs.scope.Scope.begin_block.Goals as goal

pub invariant_of-drop-clause-in_range : goal.invariant_of-drop-clause-in_range
invariant_of-drop-clause-in_range c =
    let before = c.replace-tables.result in
    let sources = sources_of before.tables.definitions in
    block_is_in (scope_in before.tables) (record { names = names_of c.begin_block.new.self; sources = sources }) before.in_range (ap (λ (n : Names). record { names = n; sources = sources }) c.in_ok-begin_block.ensures.names)

pub invariant_of-drop-clause-mark_in_range : goal.invariant_of-drop-clause-mark_in_range
invariant_of-drop-clause-mark_in_range c =
    let before = c.replace-tables.result in
    λ m h. before.mark_in_range m (names_kept (marked_names before.tables.names) (marked_names c.begin_block.new.self) (marked_sources before.tables.definitions) c.begin_block.ensures.mark m h)
