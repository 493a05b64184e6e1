use Rattle.std.proofs.Common.{arith, ◌≡◌, ◌<◌, ◌+◌, ◌*◌, ◌∙◌, length, take, sym, true, nat_lt, get_or}
use Rattle.std.specs.Char.{digit_value}
use Rattle.std.specs.Str.Parse.{digits_value}
use Rattle.std.proofs.lemmas.Int.Digits.{digits_value_more}
use Rattle.std.proofs.lemmas.Bool.Decides.{nat_tests}
use Rattle.vax_lines.proofs.NumberLaws.{too_large, list_all-next}
use Rattle.vax_lines.proofs.numbers.number_in.Goals as goal

pub returns-then-value-most-clause-value : goal.returns-then-value-most-clause-value
returns-then-value-most-clause-value c =
    let at : c.loop-byte.byte-index < length c.args.word.now = omega arith in
    let more = digits_value_more c.args.radix c.args.word.now c.loop-byte.byte-index at in
    let same : c.loop-byte.value * c.from.result + c.from-in-loop-byte.result ≡ digits_value c.args.radix (take (c.loop-byte.byte-index + 1) c.args.word.now) = cc more in
    let large : c.args.most < c.loop-byte.value * c.from.result + c.from-in-loop-byte.result = omega arith in
    sym (too_large c.args.radix c.args.most c.args.word.now (c.loop-byte.byte-index + 1) (omega arith) (rw (← same) large))

pub loop-byte-preserved : goal.loop-byte-preserved
loop-byte-preserved c =
    let at : c.loop-byte.byte-index < length c.args.word.now = omega arith in
    let more = digits_value_more c.args.radix c.args.word.now c.loop-byte.byte-index at in
    let digit : nat_lt (digit_value (get_or c.args.word.now c.loop-byte.byte-index 0)) c.args.radix ≡ true = rw (← c.digit_value-digit.ensures) (grind (arith, nat_tests)) in
    record {
      value = cc more;
      small = omega arith;
      digits = list_all-next _ c.args.word.now c.loop-byte.byte-index at digit ∙ c.loop-byte.invariant.digits;
    }
