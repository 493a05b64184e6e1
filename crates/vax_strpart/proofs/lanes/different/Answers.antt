use Rattle.std.proofs.Common.{◌==◌, not, take, drop}
use Rattle.std.proofs.lemmas.Simd.{length-chunk}
use Rattle.vax_strpart.proofs.LaneLaws.{compared_lanes}
use Rattle.vax_strpart.proofs.lanes.different.Goals as goal

pub returns : goal.returns
returns c =
    compared_lanes (λ a b. not (a == b)) (take 32 (drop c.args.at c.args.a.now)) (take 32 (drop c.args.at c.args.b.now)) (length-chunk c.args.at 32 c.args.a.now c.requires.first) (length-chunk c.args.at 32 c.args.b.now c.requires.second)
