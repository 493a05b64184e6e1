use Rattle.std.proofs.Common.{◌≡◌, ◌++◌, drop}
use Rattle.vax_debug_symbols.specs.Symbols.{lines_from}
use Rattle.vax_debug_symbols.proofs.push_all_rows.Given as goal

abbrev pub invariant-loop-file : goal.invariant-loop-file
invariant-loop-file l = l.lines.items ++ lines_from l.rest l.file (drop l.file l.modules) l.left
    ≡ l.fn.lines.items ++ lines_from l.places 0 l.modules l.notes
