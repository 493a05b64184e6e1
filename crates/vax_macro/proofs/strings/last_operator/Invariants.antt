use Rattle.std.proofs.Common.{◌≡◌, ◌≤◌}
use Rattle.vax_macro.specs.Strings.{last_operator}
use Rattle.vax_macro.proofs.strings.last_operator.Given as goal

abbrev pub invariant-loop-at : goal.invariant-loop-at
invariant-loop-at l = record {
  same : last_operator l.at l.text ≡ last_operator l.fn.end l.text;
  bound : l.at ≤ l.fn.end;
}

abbrev pub decreases-loop-at : goal.decreases-loop-at
decreases-loop-at l = l.at
