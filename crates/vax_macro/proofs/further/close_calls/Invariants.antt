use Rattle.std.proofs.Common.{◌≡◌, map, length}
use Rattle.vax_macro.specs.Directives.{calls_within}
use Rattle.vax_macro.specs.View.{call_view}
use Rattle.vax_macro.proofs.further.close_calls.Given as goal

abbrev pub invariant-loop-call : goal.invariant-loop-call
invariant-loop-call l = calls_within l.depth (map call_view l.calls.items) ≡ calls_within l.depth (map call_view l.fn.calls.items)

abbrev pub decreases-loop-call : goal.decreases-loop-call
decreases-loop-call l = length l.calls.items
