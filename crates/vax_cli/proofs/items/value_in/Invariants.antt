use Rattle.std.proofs.Common.{◌≡◌, drop}
use Rattle.vax_cli.specs.Items.{value}
use Rattle.vax_cli.specs.Said.{items_of}
use Rattle.vax_cli.proofs.items.value_in.Given as goal

-- what is left has the value
abbrev pub invariant-loop-item : goal.invariant-loop-item
invariant-loop-item l = value l.wanted (items_of (drop l.item-index l.items)) ≡ value l.wanted (items_of l.items)
