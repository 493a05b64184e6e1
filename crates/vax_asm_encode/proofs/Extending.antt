-- Small numbers, and great ones of 32 bits, are the extensions of their low bytes.
use Rattle.std.proofs.Common.{◌≡◌, ℕ, ◌-◌, ◌%◌, ◌^◌, ◌<◌, ◌≤◌, arith}
use Rattle.std.proofs.lemmas.Bool.Decides.{nat_tests}
use Rattle.vax_isa.specs.declared.actions.Narrow.{Narrow}
use Rattle.vax_isa.specs.declared.actions.Narrow.TheVariants as narrow
use Rattle.vax_flat.specs.Operand.{extended}
use Rattle.vax_asm_encode.specs.Operands.{width_of}
use Rattle.vax_asm_encode.specs.Bytes.{Extends}
use Rattle.vax_asm_encode.specs.Fields.{half}

pub extends_low : (size : Narrow) (n : ℕ) → n < half size → Extends (width_of size) n
unfolding extended
extends_low narrow.B n h = let low : n % 256 ≡ n = omega arith in grind (arith, nat_tests)
extends_low narrow.W n h = let low : n % 65536 ≡ n = omega arith in grind (arith, nat_tests)
extends_low narrow.L n h = let low : n % 4294967296 ≡ n = omega arith in grind (arith, nat_tests)

pub extends_high : (size : Narrow) (n : ℕ) → 2 ^ 32 - half size ≤ n → n < 2 ^ 32 → Extends (width_of size) n
unfolding extended
extends_high narrow.B n h t = let low : n % 256 ≡ n - (4294967296 - 256) = omega arith in grind (arith, nat_tests)
extends_high narrow.W n h t = let low : n % 65536 ≡ n - (4294967296 - 65536) = omega arith in grind (arith, nat_tests)
extends_high narrow.L n h t = let low : n % 4294967296 ≡ n = omega arith in grind (arith, nat_tests)
