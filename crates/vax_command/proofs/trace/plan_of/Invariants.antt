use Rattle.std.proofs.Common.{◌≡◌, map, take}
use Rattle.vax_command.specs.Tracing.{watch_of}
use Rattle.vax_command.proofs.trace.plan_of.Given as goal

-- the watches of the items so far
abbrev pub invariant-loop-item : goal.invariant-loop-item
invariant-loop-item l = l.watches.items ≡ map watch_of (take l.item-index l.item-items)
