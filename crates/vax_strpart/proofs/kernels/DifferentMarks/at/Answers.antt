use Rattle.std.proofs.Common.{◌<◌, length, arith}
use Rattle.vax_strpart.proofs.MarkLaws.{length-differ, differ-at}
use Rattle.vax_strpart.proofs.kernels.DifferentMarks.at.Goals as goal

pub bounds-self-i : goal.bounds-self-i
bounds-self-i c = omega (arith, c.requires, length-differ c.args.self.now.a.now c.args.self.now.b.now c.args.self.now.same)

pub bounds-self-i-2 : goal.bounds-self-i-2
bounds-self-i-2 c = omega (arith, c.requires, c.args.self.now.same, length-differ c.args.self.now.a.now c.args.self.now.b.now c.args.self.now.same)

pub returns : goal.returns
returns c =
    let within : c.args.i < length c.args.self.now.a.now = omega (arith, c.requires, length-differ c.args.self.now.a.now c.args.self.now.b.now c.args.self.now.same) in
    differ-at c.args.self.now.a.now c.args.self.now.b.now c.args.i c.args.self.now.same within
