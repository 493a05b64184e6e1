use Rattle.std.proofs.Common.{◌≡◌, ◌++◌, take}
use Rattle.vax_debug_symbols.specs.Symbols.{lines_in}
use Rattle.vax_debug_symbols.proofs.push_rows.Given as goal

abbrev pub invariant-loop-row : goal.invariant-loop-row
invariant-loop-row l = l.lines.items ≡ l.fn.lines.items ++ lines_in l.places l.file (take l.row-index l.rows)
