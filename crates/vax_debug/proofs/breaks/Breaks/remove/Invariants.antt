use Rattle.std.proofs.Common.{◌≡◌, ◌≤◌, length, take}
use Rattle.vax_debug.specs.Travel.{without}
use Rattle.vax_debug.proofs.breaks.Breaks.remove.Given as goal

-- those so far but for the address
abbrev pub invariant-loop-item : goal.invariant-loop-item
invariant-loop-item l = record {
  left : l.left.items ≡ without l.address (take l.item-index l.fn.self);
  few : length l.left.items ≤ l.item-index;
}
