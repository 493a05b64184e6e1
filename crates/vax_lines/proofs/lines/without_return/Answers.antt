use Rattle.std.proofs.Common.{◌≡◌, ◌==◌, true, false, arith}
use Rattle.std.proofs.lemmas.Bool.Decides.{nat_tests}
use Rattle.vax_lines.proofs.LineLaws.{without_return-last, without_return-other}
use Rattle.vax_lines.proofs.lines.without_return.Goals as goal

pub returns-then-last-eq13 : goal.returns-then-last-eq13
returns-then-last-eq13 c =
    let same : (c.in-Some.last.now == 13) ≡ true = grind (arith, nat_tests) in
    without_return-last c.args.line.now c.in-Some.front.now c.in-Some.last.now c.in-Some.ensures.cases.0 same

pub returns-else-last-eq13 : goal.returns-else-last-eq13
returns-else-last-eq13 c =
    let other : (c.in-Some.last.now == 13) ≡ false = grind (arith, nat_tests) in
    without_return-other c.args.line.now c.in-Some.front.now c.in-Some.last.now c.in-Some.ensures.cases.0 other
