use Rattle.std.proofs.Common.{◌≡◌, ◌+◌, ◌≤◌, drop, take, length}
use Rattle.vax_sched.specs.Faults.{PassesTo, ArePlaced}
use Rattle.vax_sched.specs.Rules.{readings, rules}
use Rattle.vax_sched.proofs.reader.read.Given as goal

-- the lines so far have passed and are kept, and the rest is left
abbrev pub invariant-loop-line : goal.invariant-loop-line
invariant-loop-line l = record {
  left : readings l.rest ≡ drop l.number (readings l.bytes);
  passed : PassesTo l.space (readings l.bytes) l.number;
  kept : l.schedule ≡ rules (take l.number (readings l.bytes));
  placed : ArePlaced l.space l.schedule;
  few : l.number + length l.rest ≤ length l.bytes;
  short : length l.schedule ≤ l.number;
}

abbrev pub decreases-loop-line : goal.decreases-loop-line
decreases-loop-line l = length l.rest
