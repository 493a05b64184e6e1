use Rattle.std.proofs.Common.{◌≡◌, ◌∙◌, nat_eq, w64, of_z}
use Rattle.std.proofs.lemmas.Int.{to_z-of_z}
use Rattle.vax_word.specs.Arithmetic.{signed_answer, low_bits, fits_signed}
use Rattle.vax_word.proofs.OperandLemmas.{low_of_cast, overflow_seen}
use Rattle.vax_word.proofs.arithmetic.narrow.Goals as goal

pub returns-clause-exact : goal.returns-clause-exact
unfolding signed_answer
returns-clause-exact c =
    let size = c.args.size in
    let exact = c.args.exact in
    let fits = c.ranges.exact in
    let low : c.low-r.result ≡ low_bits size exact =
    c.low-r.ensures.exact ∙ rw (c.cast_unsigned.ensures, to_z-of_z _ _ fits) (low_of_cast size exact fits) in
    let seen : nat_eq (of_z w64 c.extend.result) (of_z w64 exact) ≡ fits_signed size exact =
    rw (c.extend.ensures.exact, low) (overflow_seen size exact fits) in
    cc
