use Rattle.std.proofs.Common.{◌≡◌, map, length}
use Rattle.vax_macro.specs.Directives.{conditions_outside}
use Rattle.vax_macro.specs.View.{condition_view}
use Rattle.vax_macro.proofs.further.close_conditions.Given as goal

abbrev pub invariant-loop-condition : goal.invariant-loop-condition
invariant-loop-condition l = conditions_outside l.depth (map condition_view l.conditions.items) ≡ conditions_outside l.depth (map condition_view l.fn.conditions.items)

abbrev pub decreases-loop-condition : goal.decreases-loop-condition
decreases-loop-condition l = length l.conditions.items
