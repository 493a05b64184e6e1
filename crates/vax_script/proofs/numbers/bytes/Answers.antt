use Rattle.std.proofs.Common.{rules, arith, ◌≡◌, ◌∙◌, ◌∷◌, Some, None, length, sym}
use Rattle.vax_script.specs.Numbers.{byte}
use Rattle.vax_script.proofs.ByteLaws.{all_read, byte_counted, byte_read, half_byte, no_byte}
use Rattle.vax_script.proofs.numbers.bytes.Goals as goal

pub returns-in_err-low-clause-value : goal.returns-in_err-low-clause-value
returns-in_err-low-clause-value c =
    let split : c.loop-high.rest.now ≡ c.in-Some.high.now ∷ c.in-Some.behind.now = search rules in
    let none : length c.in-Some.behind.now ≡ 0 = grind arith in
    c.from_residual.ensures ∙ half_byte c.loop-high.found c.in-Some.high.now c.loop-high.rest.now c.in-Some.behind.now c.args.word.now split none c.loop-high.invariant.said

pub returns-in_err-byte-clause-value : goal.returns-in_err-byte-clause-value
returns-in_err-byte-clause-value c =
    let split : c.loop-high.rest.now ≡ c.in-Some.high.now ∷ c.in_ok-low.low.now ∷ c.in_ok-low.behind.now = search rules in
    let none : byte c.in-Some.high.now c.in_ok-low.low.now ≡ None = sym c.in_err-byte.ensures in
    c.from_residual-in_err-byte.ensures ∙ no_byte c.loop-high.found c.in-Some.high.now c.in_ok-low.low.now c.loop-high.rest.now c.in_ok-low.behind.now c.args.word.now split none c.loop-high.invariant.said

pub loop-high-preserved : goal.loop-high-preserved
loop-high-preserved c =
    let split : c.loop-high.rest.now ≡ c.in-Some.high.now ∷ c.in_ok-low.low.now ∷ c.in_ok-low.behind.now = search rules in
    let some : byte c.in-Some.high.now c.in_ok-low.low.now ≡ Some c.in_ok-byte.field-0 = sym c.in_ok-byte.ensures in
    record {
      said = byte_read c.loop-high.found c.in-Some.high.now c.in_ok-low.low.now c.in_ok-byte.field-0 c.loop-high.rest.now c.in_ok-low.behind.now c.args.word.now _ c.push.ensures split some c.loop-high.invariant.said;
      count = byte_counted c.loop-high.found c.in-Some.high.now c.in_ok-low.low.now c.in_ok-byte.field-0 c.loop-high.rest.now c.in_ok-low.behind.now c.args.word.now _ c.push.ensures split c.loop-high.invariant.count;
    }

pub returns-clause-value : goal.returns-clause-value
returns-clause-value c =
    let none : length c.loop-high.rest.now ≡ 0 = grind arith in
    all_read c.loop-high.found c.loop-high.rest.now c.args.word.now none c.loop-high.invariant.said
