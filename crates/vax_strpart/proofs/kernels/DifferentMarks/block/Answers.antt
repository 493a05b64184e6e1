use Rattle.std.proofs.Common.{arith, ◌∙◌, ap}
use lib.Lanes.{mask_l}
use Rattle.vax_strpart.proofs.MarkLaws.{length-differ, differ-block}
use Rattle.vax_strpart.proofs.kernels.DifferentMarks.block.Goals as goal

pub different-requires-clause-first : goal.different-requires-clause-first
different-requires-clause-first c = omega (arith, c.requires, length-differ c.args.self.now.a.now c.args.self.now.b.now c.args.self.now.same)

pub different-requires-clause-second : goal.different-requires-clause-second
different-requires-clause-second c = omega (arith, c.requires, c.args.self.now.same, length-differ c.args.self.now.a.now c.args.self.now.b.now c.args.self.now.same)

pub returns : goal.returns
returns c = c.different.ensures ∙ ap mask_l (differ-block c.args.self.now.a.now c.args.self.now.b.now c.args.i)
