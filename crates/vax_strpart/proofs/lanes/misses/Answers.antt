use Rattle.std.proofs.Common.{◌==◌, take, drop}
use Rattle.std.proofs.lemmas.Simd.{length-chunk}
use Rattle.vax_strpart.proofs.LaneLaws.{masked_lanes}
use Rattle.vax_strpart.proofs.lanes.misses.Goals as goal

pub returns : goal.returns
returns c = masked_lanes (λ a b. a == b) c.args.table.now (take 32 (drop c.args.at c.args.bytes.now)) c.looked_up.result c.args.mask c.looked_up.ensures (length-chunk c.args.at 32 c.args.bytes.now c.requires)
