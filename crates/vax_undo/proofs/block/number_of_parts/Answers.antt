use Rattle.std.proofs.Common.{arith, ◌≤◌, ◌++◌, length, length-append}
use Rattle.vax_undo.proofs.Numbers.{number_8}
use Rattle.vax_undo.proofs.block.number_of_parts.Goals as goal

pub returns : goal.returns
returns c =
    let few : length (c.args.low.now ++ c.args.high.now) ≤ 8 = simp length-append c.requires in
    omega (arith, number_8 (c.args.low.now ++ c.args.high.now) few)
