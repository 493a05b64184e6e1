use Rattle.std.proofs.Common.{◌≡◌, ◌++◌}
use Rattle.vax_asm_encode.specs.Bytes.{low_bytes}
use Rattle.vax_asm_encode.proofs.bytes.write_number.Given as goal

abbrev pub invariant-loop-left : goal.invariant-loop-left
invariant-loop-left l = l.out.items ++ low_bytes l.left l.rest ≡ l.fn.out.items ++ low_bytes l.fn.width l.fn.number

abbrev pub decreases-loop-left : goal.decreases-loop-left
decreases-loop-left l = l.left
