use Rattle.std.proofs.Common.{◌==◌, take, drop}
use Rattle.std.proofs.lemmas.Simd.{length-chunk}
use Rattle.vax_strpart.proofs.LaneLaws.{same_lanes}
use Rattle.vax_strpart.proofs.lanes.equal.Goals as goal

pub returns : goal.returns
returns c = same_lanes (λ a b. a == b) (take 32 (drop c.args.at c.args.bytes.now)) c.args.byte (length-chunk c.args.at 32 c.args.bytes.now c.requires)
