use Rattle.std.proofs.Common.{ap, ◌∙◌}
use lib.Lanes.{mask_l}
use Rattle.vax_strpart.specs.Kernels.{is_hit}
use Rattle.vax_strpart.proofs.MarkLaws.{block-map}
use Rattle.vax_strpart.proofs.kernels.HitsMarks.block.Goals as goal

pub returns : goal.returns
returns c = c.hits.ensures ∙ ap mask_l (block-map (is_hit c.args.self.now.table.now c.args.self.now.mask) c.args.self.now.bytes.now c.args.i 32)
