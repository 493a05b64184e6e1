-- Results that say something apart from how they are worked out.
use Rattle.std.proofs.Common.{◌≡◌, ℕ, ◌+◌, ◌*◌, ◌/◌, ◌%◌, ◌^◌, ◌<◌, ◌*ℤ◌, Bool, true, false, not, pos, refl, ap, sym, ◌∙◌, arith}
use Rattle.std.proofs.lemmas.Int.{ints}
use Rattle.std.proofs.lemmas.Bool.Decides.{nat_tests}
use Rattle.vax_word.specs.declared.Size.{Size}
use Rattle.vax_word.specs.declared.Size.TheVariants as size
use Rattle.vax_word.specs.Arithmetic.{modulus, signed, low_bits, fits_signed, signed_answer, answer, difference, shifted}
use Rattle.vax_isa.specs.declared.actions.Unary.TheVariants.{Negate}
use Rattle.vax_isa.specs.declared.actions.Binary.TheVariants.{Add, Subtract, AddWithCarry, SubtractWithCarry}
use Rattle.vax_flat.specs.Integer.{of_one, of_two, rotated}

pub negated : (z : Size) (x : ℕ) (c d : Bool) → x < modulus z → of_one Negate z z x c ≡ of_two Subtract z x 0 d
unfolding of_one of_two
negated size.B x c d h = let e : x % 256 ^ 1 ≡ x = omega arith in ap (λ n. difference size.B 0 n false) e
negated size.W x c d h = let e : x % 256 ^ 2 ≡ x = omega arith in ap (λ n. difference size.W 0 n false) e
negated size.L x c d h = let e : x % 256 ^ 4 ≡ x = omega arith in ap (λ n. difference size.L 0 n false) e
negated size.Q x c d h = let e : x % 256 ^ 8 ≡ x = omega arith in ap (λ n. difference size.Q 0 n false) e

pub added : (z : Size) (a b : ℕ) (c : Bool) → of_two AddWithCarry z a b false ≡ of_two Add z a b c
unfolding of_two
added z a b c = refl

pub subtracted : (z : Size) (a b : ℕ) (c : Bool) → of_two SubtractWithCarry z a b false ≡ of_two Subtract z a b c
unfolding of_two
subtracted z a b c = refl

pub turned : (count x : ℕ) → rotated count x ≡ rotated (count % 32) x
unfolding rotated
turned count x = let e : count % 32 % 32 ≡ count % 32 = omega arith in ap (λ n. (x * 2 ^ n + x * 2 ^ n / 2 ^ 32) % 2 ^ 32) (sym e)

-- shifted by 0, a value stays, and nothing overflows
kept : (z : Size) (x : ℕ) → x < modulus z → (low_bits z (signed z x *ℤ pos 1) ≡ x) × (fits_signed z (signed z x *ℤ pos 1) ≡ true)
unfolding low_bits fits_signed signed
kept size.B x h = (grind (arith, ints, nat_tests), grind (arith, ints, nat_tests))
kept size.W x h = (grind (arith, ints, nat_tests), grind (arith, ints, nat_tests))
kept size.L x h = (grind (arith, ints, nat_tests), grind (arith, ints, nat_tests))
kept size.Q x h = (grind (arith, ints, nat_tests), grind (arith, ints, nat_tests))

pub unshifted : (z : Size) (x : ℕ) → x < modulus z → shifted z (pos 0) x ≡ answer z x false false
unfolding shifted signed_answer
unshifted z x h =
    let k = kept z x h in
    ap (λ n. answer z n (not (fits_signed z (signed z x *ℤ pos 1))) false) k.0 ∙ ap (λ b. answer z x (not b) false) k.1
