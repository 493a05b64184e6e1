use Rattle.std.proofs.Common.{◌≡◌, ◌++◌, drop, map}
use Rattle.vax_asm_errors.specs.Errors.{under}
use Rattle.vax_asm_errors.proofs.line.push_blanks.Given as goal

abbrev pub invariant-loop-byte : goal.invariant-loop-byte
invariant-loop-byte l = l.out.items ++ map under (drop l.byte-index l.bytes) ≡ l.fn.out.items ++ map under l.bytes
