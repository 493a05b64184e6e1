use Rattle.std.proofs.Common.{◌≡◌, ◌++◌, drop}
use Rattle.vax_debug_symbols.specs.Symbols.{symbols_from}
use Rattle.vax_debug_symbols.proofs.push_modules.Given as goal

abbrev pub invariant-loop-module : goal.invariant-loop-module
invariant-loop-module l = l.symbols.items ++ symbols_from l.rest (drop l.module-index l.modules) l.left
    ≡ l.fn.symbols.items ++ symbols_from l.places l.modules l.notes
