use Rattle.std.proofs.Common.{ap, ◌∙◌}
use lib.Lanes.{mask_l}
use Rattle.vax_strpart.specs.Kernels.{is_escape}
use Rattle.vax_strpart.proofs.MarkLaws.{block-map}
use Rattle.vax_strpart.proofs.kernels.EscapesMarks.block.Goals as goal

pub returns : goal.returns
returns c = c.escapes.ensures ∙ ap mask_l (block-map (is_escape c.args.self.now.table.now c.args.self.now.escape) c.args.self.now.bytes.now c.args.i 32)
