use Rattle.std.proofs.Common.{◌≡◌, ◌++◌, drop}
use Rattle.vax_cli.specs.Items.{values}
use Rattle.vax_cli.specs.Said.{items_of, names_of}
use Rattle.vax_cli.proofs.items.values_in.Given as goal

-- those so far, and the values that are left
abbrev pub invariant-loop-item : goal.invariant-loop-item
invariant-loop-item l = names_of l.all.items ++ values l.wanted (items_of (drop l.item-index l.items)) ≡ values l.wanted (items_of l.items)
