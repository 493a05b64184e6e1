use Rattle.std.proofs.Common.{◌≡◌, ◌++◌, take}
use Rattle.vax_debug_symbols.specs.Symbols.{symbols_in}
use Rattle.vax_debug_symbols.proofs.push_names.Given as goal

abbrev pub invariant-loop-label : goal.invariant-loop-label
invariant-loop-label l = l.symbols.items ≡ l.fn.symbols.items ++ symbols_in l.places l.sections (take l.label-index l.labels)
