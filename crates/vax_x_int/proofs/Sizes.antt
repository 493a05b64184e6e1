-- What fits a size.
use Rattle.std.proofs.Common.{◌≡◌, ◌≢◌, ℕ, ◌<◌, ◌≤◌, ◌^◌, bit_and, bit_or, arith, to_z, w8, ◌*◌, ◌%◌, ℤ, pos, negsuc, ◌+ℤ◌, ◌*ℤ◌}
use Rattle.std.proofs.Math.Pow.{pow_mono}
use Rattle.std.proofs.lemmas.Bool.Decides.{nat_tests}
use Rattle.std.proofs.lemmas.Int.{ints}
use Rattle.std.proofs.lemmas.Nat.{or_lt, xor_lt, and_le_l, mul-lt}
use Rattle.std.specs.Int.Bits.{bit_xor}
use Rattle.vax_word.specs.declared.Size.{Size}
use Rattle.vax_word.specs.declared.Size.TheVariants.{B, L, Q}
use Rattle.vax_word.specs.Arithmetic.{bytes_of, signed, low_bits, answer, signed_answer, extended_product}
use Rattle.vax_isa.specs.declared.actions.Narrow.{Narrow}
use Rattle.vax_isa.specs.declared.actions.Narrow.TheVariants as narrow
use Rattle.vax_isa.specs.Actions.{size_of}

pub or_fits : (s : Narrow) (a b : ℕ) → a < 256 ^ bytes_of (size_of s) → b < 256 ^ bytes_of (size_of s) → bit_or a b < 256 ^ bytes_of (size_of s)
or_fits narrow.B a b p q = or_lt 8 a b p q
or_fits narrow.W a b p q = or_lt 16 a b p q
or_fits narrow.L a b p q = or_lt 32 a b p q

pub xor_fits : (s : Narrow) (a b : ℕ) → a < 256 ^ bytes_of (size_of s) → b < 256 ^ bytes_of (size_of s) → bit_xor a b < 256 ^ bytes_of (size_of s)
xor_fits narrow.B a b p q = xor_lt 8 a b p q
xor_fits narrow.W a b p q = xor_lt 16 a b p q
xor_fits narrow.L a b p q = xor_lt 32 a b p q

pub and_fits : (s : Size) (a b : ℕ) → a < 256 ^ bytes_of s → bit_and a b < 256 ^ bytes_of s
and_fits s a b p = let below : bit_and a b ≤ a = and_le_l a b in omega arith

pub narrow_is_short : (s : Narrow) → size_of s ≢ Q
narrow_is_short narrow.B e = absurd (cc)
narrow_is_short narrow.W e = absurd (cc)
narrow_is_short narrow.L e = absurd (cc)

-- a count of a byte, as the code reads its sign
pub signed_count : (x : ℕ) → x < 256 → to_z w8 x ≡ signed B x
unfolding signed
signed_count x h = grind (arith, ints, nat_tests)

-- a longword shifted by at most 31 places
pub turned_below : (x count : ℕ) → x < 256 ^ 4 → x * 2 ^ (count % 32) < 9223372041149743104
turned_below x count h =
    let few : 2 ^ (count % 32) ≤ 2 ^ 31 = pow_mono {i = count % 32} {j = 31} (omega arith) in
    mul-lt x (2 ^ (count % 32)) 4294967296 2147483649 h (omega arith)

low_below : (z : ℤ) → low_bits Q z < 256 ^ 8
unfolding low_bits
low_below (pos n) = omega arith
low_below (negsuc n) = omega arith

pub product_fits : (a b addend : ℕ) → (extended_product a b addend).0 < 256 ^ 8
unfolding extended_product signed_answer answer
product_fits a b addend = low_below (signed L a *ℤ signed L b +ℤ signed L addend)
