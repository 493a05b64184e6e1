use Rattle.std.proofs.Common.{◌≡◌, drop}
use Rattle.vax_debug_names.specs.Names.{value_of}
use Rattle.vax_debug_names.proofs.value_of.Given as goal

-- none of the symbols so far has the name
abbrev pub invariant-loop-symbol : goal.invariant-loop-symbol
invariant-loop-symbol l = value_of l.symbols l.name ≡ value_of (drop l.symbol-index l.symbols) l.name
