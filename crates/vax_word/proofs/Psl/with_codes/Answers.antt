use Rattle.std.proofs.Common.{◌≡◌, ◌+◌, ◌*◌, ◌/◌, ◌^◌, ◌<◌, ◌∙◌, ℕ, ap, arith, bit_and, bit_or}
use Rattle.vax_word.specs.declared.Psl.{Psl}
use Rattle.vax_word.specs.Status.{codes_of, codes_number, with_codes}
use Rattle.vax_word.proofs.StatusLemmas.{low_replaced, codes_number_below, codes_number-codes_of, codes_of-packed}
use Rattle.vax_word.proofs.Psl.with_codes.Goals as goal

psl : ℕ → Psl
psl x = record { 0 = x }

pub returns : goal.returns
unfolding with_codes psl
returns c =
    let p = c.args.self in
    let k = c.args.codes in
    let fits : p.0 < 2 ^ 32 = omega arith in
    let made : bit_or (bit_and p.0 4294967280) c.bits.result ≡ p.0 / 16 * 16 + codes_number k =
    low_replaced _ _ fits c.bits.ensures.within ∙ ap (λ y. p.0 / 16 * 16 + y) c.bits.ensures.exact in
    record {
      exact = ap psl made;
      read_back = ap (λ y. codes_of (psl y)) made ∙ codes_of-packed (p.0 / 16) k;
      others = omega (arith, made, codes_number_below k);
      identity = λ same. ap psl (made ∙ omega (arith, ap codes_number same, codes_number-codes_of p));
    }
