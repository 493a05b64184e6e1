use Rattle.std.proofs.Common.{◌≡◌, ◌++◌, drop}
use Rattle.vax_cli.specs.Items.{names}
use Rattle.vax_cli.specs.Said.{items_of, names_of}
use Rattle.vax_cli.proofs.items.names_in.Given as goal

-- those so far, and the names that are left
abbrev pub invariant-loop-item : goal.invariant-loop-item
invariant-loop-item l = names_of l.names.items ++ names (items_of (drop l.item-index l.items)) ≡ names (items_of l.items)
