-- What leaves the bit of an instruction that is open clear.
use Rattle.std.proofs.Common.{◌≡◌, ℕ, ◌+◌, ◌*◌, ◌/◌, ◌%◌, ◌<◌, ◌≤◌, arith}
use Rattle.std.specs.Prelude.{bit_or, bit_and}
use Rattle.std.specs.Int.{bit_at}
use Rattle.std.proofs.lemmas.Nat.Bits.{bit_at_or, bit_at_and}
use Rattle.vax_word.specs.declared.Psl.{Psl}
use Rattle.vax_word.specs.declared.Codes.{Codes}
use Rattle.vax_word.specs.Status.{with_codes, codes_number}
use Rattle.vax_word.proofs.StatusLemmas.{codes_number_below}
use Rattle.vax_undo.specs.FirstPart.{first_part_done}

low_bits : (a k : ℕ) → k < 16 → (a / 16 * 16 + k) / 134217728 % 2 ≤ a / 134217728 % 2
low_bits a k h = omega arith

pub codes_closed : (p : Psl) (k : Codes) → first_part_done (with_codes p k) ≤ first_part_done p
unfolding with_codes first_part_done
codes_closed p k = low_bits p.0 (codes_number k) (codes_number_below k)

low_mask : (m : ℕ) → m / 256 ≡ 0 → bit_at m 27 ≡ 0
low_mask m h = omega arith

set_bit : (a m : ℕ) → m / 256 ≡ 0 → bit_at (bit_or a m) 27 ≤ bit_at a 27
set_bit a m small = rw (bit_at_or, low_mask m small) (omega arith)

pub set_closed : (a m : ℕ) → m / 256 ≡ 0 → first_part_done (record { 0 = bit_or a m }) ≤ first_part_done (record { 0 = a })
unfolding first_part_done
set_closed a m small = set_bit a m small

cleared_bit : (a m : ℕ) → bit_at (bit_and a m) 27 ≤ bit_at a 27
cleared_bit a m = rw bit_at_and (omega arith)

pub cleared_closed : (a m : ℕ) → first_part_done (record { 0 = bit_and a m }) ≤ first_part_done (record { 0 = a })
unfolding first_part_done
cleared_closed a m = cleared_bit a m
