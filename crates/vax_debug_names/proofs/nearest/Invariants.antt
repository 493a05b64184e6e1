use Rattle.std.proofs.Common.{◌≡◌, drop}
use Rattle.vax_debug_names.specs.Names.{nearest, nearest_from}
use Rattle.vax_debug_names.proofs.nearest.Given as goal

-- what was found so far, and what is left
abbrev pub invariant-loop-index : goal.invariant-loop-index
invariant-loop-index l = nearest l.symbols l.address ≡ nearest_from l.index l.address l.found (drop l.index l.symbols)
