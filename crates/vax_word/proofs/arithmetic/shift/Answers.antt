use Rattle.std.proofs.Common.{◌≡◌, ap, ◌^◌, ◌*◌, ◌%◌, ◌∙◌, arith, rules, true, false, pos, unsigned_abs, int_lt, w64, FitsSigned}
use Rattle.std.proofs.lemmas.Int.{to_z-of_z}
use Rattle.std.specs.Int.Signed.{shr_z, mag_shr}
use Rattle.vax_word.specs.Arithmetic.{modulus, signed}
use Rattle.vax_word.proofs.ShiftLemmas.{low_of_whole, right_answer, left_answer, far_answer}
use Rattle.vax_word.proofs.arithmetic.shift.Goals as goal

pub returns-then-count-lt0-clause-exact : goal.returns-then-count-lt0-clause-exact
returns-then-count-lt0-clause-exact c =
    let exact = c.extend-exact.result in
    let count_fits = c.ranges.count in
    let exact_fits : FitsSigned w64 exact = search rules in
    let floor_fits : FitsSigned w64 (shr_z exact (2 ^ c.min.result)) = record { sfits = omega (arith, mag_shr exact (2 ^ c.min.result), exact_fits.sfits) } in
    let left : int_lt c.args.count (pos 0) ≡ true = rw (to_z-of_z _ _ count_fits) at c.if-count-lt0.true in
    let narrowed = rw (to_z-of_z _ _ exact_fits, to_z-of_z _ _ floor_fits, c.extend-exact.ensures.exact, c.min.ensures, c.unsigned_abs-places.ensures.value, to_z-of_z _ _ count_fits) at c.narrow.ensures.exact in
    narrowed ∙ right_answer c.args.size c.args.count c.args.value left (rw (← c.extend-exact.ensures.exact) exact_fits)

pub returns-then-places-ge64-clause-exact : goal.returns-then-places-ge64-clause-exact
returns-then-places-ge64-clause-exact c =
    let count_fits = c.ranges.count in
    let left : int_lt c.args.count (pos 0) ≡ false = rw (to_z-of_z _ _ count_fits) at c.if-count-lt0.false in
    c.result.ensures.exact
    ∙ far_answer c.args.size c.args.count c.args.value left (rw (c.unsigned_abs-places.ensures.value, to_z-of_z _ _ count_fits) at c.if-places-ge64.true) c.requires.fits

pub returns-clause-exact : goal.returns-clause-exact
returns-clause-exact c =
    let count_fits = c.ranges.count in
    let left : int_lt c.args.count (pos 0) ≡ false = rw (to_z-of_z _ _ count_fits) at c.if-count-lt0.false in
    let size = c.args.size in
    let value = c.args.value in
    let r = c.low-r.result in
    let places : c.unsigned_abs-places.result ≡ unsigned_abs c.args.count = c.unsigned_abs-places.ensures.value ∙ ap unsigned_abs (to_z-of_z _ _ count_fits) in
    let low : r ≡ value * 2 ^ unsigned_abs c.args.count % modulus size =
    c.low-r.ensures.exact ∙ low_of_whole size _ ∙ ap (λ k. value * 2 ^ k % modulus size) places in
    let exact_fits : FitsSigned w64 c.extend-exact.result = search rules in
    let r_fits : FitsSigned w64 c.extend.result = search rules in
    let value_fits : FitsSigned w64 (signed size value) = rw (← c.extend-exact.ensures.exact) exact_fits in
    let signed_fits : FitsSigned w64 (signed size r) = rw (← c.extend.ensures.exact) r_fits in
    let back_fits : FitsSigned w64 (shr_z (signed size r) (2 ^ unsigned_abs c.args.count)) =
    record { sfits = omega (arith, mag_shr (signed size r) (2 ^ unsigned_abs c.args.count), signed_fits.sfits) } in
    let answered = left_answer size c.args.count value r left c.requires.fits value_fits low back_fits in
    c.result-2.ensures.exact ∙ rw (to_z-of_z _ _ r_fits, c.extend.ensures.exact, c.extend-exact.ensures.exact, places) answered
