use Rattle.std.proofs.Common.{◌≡◌, length}
use Rattle.vax_cli.specs.Items.{are_distinct}
use Rattle.vax_cli.specs.Said.{items_of}
use Rattle.vax_cli.proofs.items.are_distinct.Given as goal

-- what is left decides
abbrev pub invariant-loop-rest : goal.invariant-loop-rest
invariant-loop-rest l = are_distinct (items_of l.rest) ≡ are_distinct (items_of l.items)

abbrev pub decreases-loop-rest : goal.decreases-loop-rest
decreases-loop-rest l = length l.rest
