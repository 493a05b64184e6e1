use Rattle.std.proofs.Common.{◌≡◌, false, nat_eq, int_div, w64, FitsSigned, arith, rules}
use Rattle.std.proofs.lemmas.Int.{to_z-of_z, fits_signed_from_abs}
use Rattle.std.proofs.lemmas.Bool.Decides.{nat_tests}
use Rattle.vax_word.specs.Arithmetic.{signed_answer}
use Rattle.vax_word.proofs.QuotientLemmas.{signed_nonzero, short_sign_bit, abs-int_div, quotient_answer}
use Rattle.vax_word.proofs.arithmetic.div.Goals as goal

pub nonzero_div-extend : goal.nonzero_div-extend
nonzero_div-extend c =
    let x = c.extend.result in
    let y = c.extend-2.result in
    let x_fits : FitsSigned w64 x = search rules in
    let y_fits : FitsSigned w64 y = search rules in
    let fits : FitsSigned w64 (int_div x y) =
    fits_signed_from_abs w64 _ (omega (arith, abs-int_div x y, c.extend.ensures.bound, short_sign_bit c.args.size c.requires.short)) in
    let nonzero : nat_eq c.args.divr 0 ≡ false = grind (arith, nat_tests) in
    (rw c.extend-2.ensures.exact (signed_nonzero c.args.size c.args.divr c.requires.divr_fits nonzero), rw (to_z-of_z _ _ x_fits, to_z-of_z _ _ y_fits) fits)

pub returns-clause-exact : goal.returns-clause-exact
returns-clause-exact c =
    let x = c.extend.result in
    let y = c.extend-2.result in
    let x_fits : FitsSigned w64 x = search rules in
    let y_fits : FitsSigned w64 y = search rules in
    let fits : FitsSigned w64 (int_div x y) =
    fits_signed_from_abs w64 _ (omega (arith, abs-int_div x y, c.extend.ensures.bound, short_sign_bit c.args.size c.requires.short)) in
    let nonzero : nat_eq c.args.divr 0 ≡ false = grind (arith, nat_tests) in
    let answered = quotient_answer c.args.size c.args.divd c.args.divr c.requires.divd_fits nonzero in
    let narrowed : c.narrow.result ≡ signed_answer c.args.size (int_div x y) = rw (to_z-of_z _ _ x_fits, to_z-of_z _ _ y_fits, to_z-of_z _ _ fits) at c.narrow.ensures.exact in
    cc
