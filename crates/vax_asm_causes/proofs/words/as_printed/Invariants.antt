use Rattle.vax_asm_causes.specs.Printed.{ArePrinted}
use Rattle.vax_asm_causes.proofs.words.as_printed.Given as goal

abbrev pub invariant-loop-byte : goal.invariant-loop-byte
invariant-loop-byte l = ArePrinted l.all.items
