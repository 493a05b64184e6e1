use Rattle.std.proofs.Common.{◌≡◌, take}
use Rattle.vax_command.specs.Room.{items_of}
use Rattle.vax_command.proofs.dump.make_blanks.Given as goal

-- room for the items so far
abbrev pub invariant-loop-item : goal.invariant-loop-item
invariant-loop-item l = items_of l.all.items ≡ take l.item-index l.items
