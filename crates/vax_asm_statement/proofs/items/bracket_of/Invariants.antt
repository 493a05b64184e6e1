use Rattle.std.proofs.Common.{◌≡◌, drop}
use Rattle.vax_asm_statement.specs.Items.{bracket_from}
use Rattle.vax_asm_statement.proofs.items.bracket_of.Given as goal

abbrev pub invariant-loop-i : goal.invariant-loop-i
invariant-loop-i l = bracket_from l.i (drop l.i l.tokens) ≡ bracket_from 0 l.tokens
