use Rattle.std.proofs.Common.{◌≡◌, ◌≤◌}
use Rattle.vax_flat.specs.Step.{highest}
use Rattle.vax_cpu.proofs.interrupt.sought.Given as goal

-- no level above is requested
abbrev pub invariant-loop-level : goal.invariant-loop-level
invariant-loop-level l = record {
  high : l.level ≤ 15;
  same : highest l.level l.requests ≡ highest 15 l.requests;
}

abbrev pub decreases-loop-level : goal.decreases-loop-level
decreases-loop-level l = l.level
