use Rattle.std.proofs.Common.{sym}
use Rattle.vax_strpart.proofs.MarkLaws.{length-differ}
use Rattle.vax_strpart.proofs.kernels.DifferentMarks.len.Goals as goal

pub returns : goal.returns
returns c = sym (length-differ c.args.self.now.a.now c.args.self.now.b.now c.args.self.now.same)
