use Rattle.std.proofs.Common.{◌+◌, ◌≤◌, length}
use Rattle.vax_order.proofs.Reading.{HasRead}
use Rattle.vax_order.proofs.order.Order.read.Given as goal

-- the lines so far were read, and the rest is left
abbrev pub invariant-loop-line : goal.invariant-loop-line
invariant-loop-line l = record {
  read : HasRead l.jobs l.bytes l.rest l.number l.lines.items;
  few : l.number + length l.rest ≤ length l.bytes;
}

abbrev pub decreases-loop-line : goal.decreases-loop-line
decreases-loop-line l = length l.rest
