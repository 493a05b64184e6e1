use Rattle.std.proofs.Common.{◌≡◌, ◌∙◌, ap, not, ◌||◌, true, false, nat_eq, int_div, int_rem, w64, FitsSigned, rules, arith, refl}
use Rattle.std.proofs.lemmas.Int.{to_z-of_z}
use Rattle.std.specs.Int.Signed.{mag_rem}
use Rattle.vax_word.specs.declared.Size.TheVariants.{L, Q}
use Rattle.vax_word.specs.Arithmetic.{answer, signed, low_bits, fits_signed, signed_answer}
use Rattle.vax_word.proofs.OperandLemmas.{low_of_cast}
use Rattle.vax_word.proofs.ProductLemmas.{signed_answer-v}
use Rattle.vax_word.proofs.QuotientLemmas.{divisor_nonzero, cannot_divide, extended_overflow, extended_fit, or-of_not, not-true}
use Rattle.vax_word.proofs.arithmetic.ediv.Goals as goal
use Rattle.vax_word.proofs.arithmetic.ediv.Goals.{in-Some+else-not-codes, in_default}

pub returns : goal.returns
returns c =
    let b = c.args.divr in
    let a = c.args.divd in
    let x_fits : FitsSigned w64 c.extend-dividend.result = search rules in
    let y_fits : FitsSigned w64 c.extend-divisor.result = search rules in
    let tested : nat_eq b 0 || not (fits_signed L (int_div (signed Q a) (signed L b))) ≡ true =
    elim c.match-checked_div.branch [
      | in-Some+else-not-codes w ↦
          let whole = rw (to_z-of_z _ _ x_fits, to_z-of_z _ _ y_fits, c.extend-dividend.ensures.exact, c.extend-divisor.ensures.exact) at w.in-Some.ensures in
          let narrowed : w.narrow-quotient.result ≡ signed_answer L (int_div (signed Q a) (signed L b)) =
          w.narrow-quotient.ensures.exact ∙ rw (whole.1, to_z-of_z _ _ whole.0.1) refl in
          rw (← signed_answer-v L (int_div (signed Q a) (signed L b)), ← narrowed) (or-of_not _ _ w.if-not-codes.false)
      | in_default w ↦
          cannot_divide b _ (omega arith) (rw (to_z-of_z _ _ x_fits, to_z-of_z _ _ y_fits, c.extend-dividend.ensures.exact, c.extend-divisor.ensures.exact) at w.in_default.ensures)
    ] in
    extended_overflow b a tested c.result-quotient.result (c.result-quotient.ensures.exact ∙ ap (λ r. answer L r true false) c.low.ensures.exact)

pub returns-then-not-codes : goal.returns-then-not-codes
returns-then-not-codes c =
    let b = c.args.divr in
    let a = c.args.divd in
    let x = c.extend-dividend.result in
    let y = c.extend-divisor.result in
    let x_fits : FitsSigned w64 x = search rules in
    let y_fits : FitsSigned w64 y = search rules in
    let whole = rw (to_z-of_z _ _ x_fits, to_z-of_z _ _ y_fits, c.extend-dividend.ensures.exact, c.extend-divisor.ensures.exact) at c.in-Some.ensures in
    let narrowed : c.narrow-quotient.result ≡ signed_answer L (int_div (signed Q a) (signed L b)) =
    c.narrow-quotient.ensures.exact ∙ rw (whole.1, to_z-of_z _ _ whole.0.1) refl in
    let fits : not (fits_signed L (int_div (signed Q a) (signed L b))) ≡ false =
    rw (← signed_answer-v L (int_div (signed Q a) (signed L b)), ← narrowed) (not-true _ c.if-not-codes.true) in
    let tested : nat_eq b 0 || not (fits_signed L (int_div (signed Q a) (signed L b))) ≡ false =
    rw (divisor_nonzero b whole.0.0, fits) refl in
    let rest_fits : FitsSigned w64 (int_rem x y) = record { sfits = omega (arith, mag_rem x y, x_fits.sfits) } in
    let rest : c.low-remainder.result ≡ low_bits L (int_rem (signed Q a) (signed L b)) =
    c.low-remainder.ensures.exact
    ∙ rw (c.cast_unsigned.ensures, to_z-of_z _ _ x_fits, to_z-of_z _ _ y_fits, to_z-of_z _ _ rest_fits, ← c.extend-dividend.ensures.exact, ← c.extend-divisor.ensures.exact) (low_of_cast L (int_rem x y) rest_fits) in
    extended_fit b a tested _ _ narrowed rest
