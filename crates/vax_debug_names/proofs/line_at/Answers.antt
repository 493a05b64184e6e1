use Rattle.std.proofs.Common.{◌≡◌, ◌∙◌, ◌==◌, arith, sym, true, false}
use Rattle.std.proofs.lemmas.Bool.Decides.{nat_tests}
use Rattle.vax_debug_names.proofs.Standing.{line_here, line_last, line_not_here}
use Rattle.vax_debug_names.proofs.line_at.Goals as goal

pub returns-then-line-address : goal.returns-then-line-address
returns-then-line-address c =
    let is : (c.line-item.result.address == c.args.address) ≡ true = grind (arith, nat_tests) in
    sym (c.loop-line.invariant ∙ line_here c.args.lines.now c.args.address c.loop-line.line-index c.line-item.result c.loop-line-test.true c.line-item.is is)

pub loop-line-preserved : goal.loop-line-preserved
loop-line-preserved c =
    let is : (c.line-item.result.address == c.args.address) ≡ false = grind (arith, nat_tests) in
    c.loop-line.invariant ∙ line_not_here c.args.lines.now c.args.address c.loop-line.line-index c.line-item.result c.loop-line-test.true c.line-item.is is

pub returns : goal.returns
returns c = sym (c.loop-line.invariant ∙ line_last c.args.lines.now c.args.address c.loop-line.line-index c.loop-line-test.false)
