use Rattle.std.proofs.Common.{◌≡◌, ◌++◌, drop, map}
use Rattle.vax_asm_errors.specs.Errors.{shown}
use Rattle.vax_asm_errors.proofs.line.push_bytes.Given as goal

abbrev pub invariant-loop-byte : goal.invariant-loop-byte
invariant-loop-byte l = l.out.items ++ map shown (drop l.byte-index l.bytes) ≡ l.fn.out.items ++ map shown l.bytes
