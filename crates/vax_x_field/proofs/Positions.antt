-- A signed position as the code's shift has it.
use Rattle.std.proofs.Common.{◌≡◌, ℕ, ◌<◌, ap, ◌∙◌, arith, ℤ, pos, negsuc, unsigned_abs, w32, to_z, of_z}
use Rattle.std.proofs.lemmas.Bool.Decides.{nat_tests}
use Rattle.std.proofs.lemmas.Int.{ints, of_z-to_z}
use Rattle.std.specs.Int.{int_div_euclid, int_rem_euclid}
use Rattle.std.specs.Int.Signed.{shr_z}
use Rattle.vax_word.specs.declared.Size.TheVariants.{L}
use Rattle.vax_word.specs.Arithmetic.{signed, low_bits}
use Rattle.vax_flat.specs.Field.{bytes_before}

eighth : (p : ℕ) → p < 4294967296 → of_z w32 (shr_z (to_z w32 p) 8) ≡ bytes_before p
unfolding bytes_before low_bits signed
eighth p h = grind (arith, ints, nat_tests)

low_below : (z : ℤ) → unsigned_abs (int_rem_euclid z (pos 4294967296)) < 4294967296
low_below (pos n) = omega arith
low_below (negsuc n) = omega arith

before_below : (p : ℕ) → bytes_before p < 4294967296
unfolding bytes_before low_bits
before_below p = low_below (int_div_euclid (signed L p) (pos 8))

pub shifted : (p : ℕ) (z : ℤ) → p < 4294967296 → z ≡ to_z w32 p → of_z w32 (to_z w32 (of_z w32 (shr_z (to_z w32 (of_z w32 z)) 8))) ≡ bytes_before p
shifted p z h e =
    let back : of_z w32 z ≡ p = ap (of_z w32) e ∙ of_z-to_z w32 p h in
    let same : of_z w32 (shr_z (to_z w32 (of_z w32 z)) 8) ≡ bytes_before p = ap (λ n. of_z w32 (shr_z (to_z w32 n) 8)) back ∙ eighth p h in
    ap (λ n. of_z w32 (to_z w32 n)) same ∙ of_z-to_z w32 (bytes_before p) (before_below p)
