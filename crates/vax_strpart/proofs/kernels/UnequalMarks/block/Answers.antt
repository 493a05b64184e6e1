use Rattle.std.proofs.Common.{◌==◌, not, ap, ◌∙◌}
use lib.Lanes.{mask_l}
use Rattle.vax_strpart.proofs.MarkLaws.{block-map}
use Rattle.vax_strpart.proofs.kernels.UnequalMarks.block.Goals as goal

pub returns : goal.returns
returns c = c.unequal.ensures ∙ ap mask_l (block-map (λ x. not (x == c.args.self.now.byte)) c.args.self.now.bytes.now c.args.i 32)
