use Rattle.std.proofs.Common.{◌≡◌, [], length, true}
use Rattle.std.specs.List.{list_all}
use Rattle.vax_sched.specs.Due.{targets_of}
use Rattle.vax_sched.specs.Kept.{is_divisor}
use Rattle.vax_sched.proofs.due.TargetsIterator.next.Given as goal

abbrev pub invariant-loop-rule : goal.invariant-loop-rule
invariant-loop-rule l = record {
  none : l.self-inside.fixed.now ≡ [];
  left : targets_of l.self-inside.turn l.self-inside.fixed.now l.self-inside.repeated.now ≡ l.fn.self;
  divisors : list_all is_divisor l.self-inside.repeated.now ≡ true;
}

abbrev pub decreases-loop-rule : goal.decreases-loop-rule
decreases-loop-rule l = length l.self-inside.repeated.now
