use Rattle.std.proofs.Common.{ap, ◌∙◌}
use lib.Lanes.{mask_l}
use Rattle.vax_strpart.specs.Kernels.{is_miss}
use Rattle.vax_strpart.proofs.MarkLaws.{block-map}
use Rattle.vax_strpart.proofs.kernels.MissesMarks.block.Goals as goal

pub returns : goal.returns
returns c = c.misses.ensures ∙ ap mask_l (block-map (is_miss c.args.self.now.table.now c.args.self.now.mask) c.args.self.now.bytes.now c.args.i 32)
