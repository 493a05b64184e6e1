use Rattle.std.proofs.Common.{rules, replicate}
use Rattle.vax_outside.proofs.BlockLaws.{replicate_next}
use Rattle.vax_pager.proofs.store.zeros.Goals as goal

pub loop-preserved : goal.loop-preserved
loop-preserved c =
    replicate_next c.loop.frames.items c.push.new.self.items c.loop.counter (replicate 512 0) c.loop.invariant (search rules)
