use Rattle.std.proofs.Common.{◌<◌, ◌+◌, ◌^◌, take}
use Rattle.vax_sched.specs.Due.{IsGap, repeated_now}
use Rattle.vax_sched.proofs.due.repeated_gap.Given as goal

-- the gap of the rules so far
abbrev pub invariant-loop-rule : goal.invariant-loop-rule
invariant-loop-rule l = record {
  gap : IsGap (λ t. repeated_now t (take l.rule-index l.rules)) l.turn l.gap;
  within : l.turn + l.gap < 2 ^ 64;
}
