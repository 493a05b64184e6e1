use Rattle.std.proofs.Common.{◌≡◌, [], ◌∷◌, ◌++◌, ap, ◌∙◌, sym, arith, length, length-append}
use Rattle.vax_disasm.proofs.Digits.{digit_more, no_digit_more}
use Rattle.vax_disasm.proofs.text.push_hex.Goals as goal

pub loop-left-preserved : goal.loop-left-preserved
loop-left-preserved c =
    let more : c.push.new.self.bytes ≡ c.loop-left.text.bytes ++ c.hex_digit.result ∷ [] = c.push.ensures.ascii c.hex_digit.ensures.ascii in
    record {
      few = omega arith;
      exact = rw more (digit_more c.loop-left.text.bytes c.loop-left.left c.args.n c.hex_digit.result c.loop-left-test.true c.hex_digit.ensures.digit ∙ c.loop-left.invariant.exact);
      len = omega (arith, ap length more, length-append c.loop-left.text.bytes (c.hex_digit.result ∷ []));
    }

pub returns-clause-exact : goal.returns-clause-exact
returns-clause-exact c = sym (no_digit_more c.loop-left.text.bytes c.loop-left.left c.args.n (omega arith)) ∙ c.loop-left.invariant.exact
