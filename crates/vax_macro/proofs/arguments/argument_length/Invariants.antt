use Rattle.std.proofs.Common.{◌≡◌, ◌≤◌, ◌+◌, ◌-◌, length, drop}
use Rattle.std.specs.List.{prefix_len}
use Rattle.vax_macro.specs.Arguments.{is_bare}
use Rattle.vax_macro.proofs.arguments.argument_length.Given as goal

abbrev pub invariant-loop-count : goal.invariant-loop-count
invariant-loop-count l = record {
  in_range : l.count ≤ length l.text;
  same : l.count + prefix_len (is_bare l.larger) (drop l.count l.text) ≡ prefix_len (is_bare l.larger) l.text;
}

abbrev pub decreases-loop-count : goal.decreases-loop-count
decreases-loop-count l = length l.text - l.count
