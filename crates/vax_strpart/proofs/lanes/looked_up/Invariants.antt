use Rattle.std.proofs.Common.{◌≡◌, length, take, drop}
use Rattle.vax_strpart.specs.Kernels.{translated}
use Rattle.vax_strpart.proofs.lanes.looked_up.Given as goal

abbrev pub invariant-loop-k : goal.invariant-loop-k
invariant-loop-k l = record {
  front : take l.k l.found ≡ translated l.table (take l.k (drop l.at l.bytes));
  long : length l.found ≡ 32;
}
