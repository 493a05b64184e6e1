use Rattle.std.proofs.Common.{◌≡◌, ◌+◌, drop}
use Rattle.vax_asm_errors.specs.Errors.{indent}
use Rattle.vax_asm_errors.proofs.line.indent.Given as goal

abbrev pub invariant-loop-i : goal.invariant-loop-i
invariant-loop-i l = indent l.line ≡ l.i + indent (drop l.i l.line)
