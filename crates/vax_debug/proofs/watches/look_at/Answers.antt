use Rattle.std.proofs.Common.{arith}
use Rattle.std.proofs.lemmas.List.{length-take, length-replicate}
use Rattle.vax_debug.proofs.Watching.{told_watch}
use Rattle.vax_debug.proofs.watches.look_at.Goals as goal

pub returns-in-Ok-clause-tells : goal.returns-in-Ok-clause-tells
returns-in-Ok-clause-tells g c = λ sink o s replies here.
    let shown = c.in-Ok.ensures.shows sink o s replies here in
    told_watch s.machine c.args.watch c.examine.new.cells _ c.saw.result shown (simp (length-take, length-replicate) (omega arith)) c.saw.ensures
