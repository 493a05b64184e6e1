use Rattle.std.proofs.Common.{◌≤◌, length, arith}
use Rattle.std.proofs.lemmas.List.{length-take, length-replicate}
use Rattle.vax_debug.proofs.Watching.{told_change}
use Rattle.vax_debug.proofs.watches.is_changed.Goals as goal

pub returns-in-Ok-clause-tells : goal.returns-in-Ok-clause-tells
returns-in-Ok-clause-tells g c = λ sink o s replies here.
    let shown = c.in-Ok.ensures.shows sink o s replies here in
    let few : length c.as_slice-before.result.now ≤ 255 = c.as_slice-before.ensures.few in
    told_change s.machine c.args.seen.now c.as_slice-before.result.now c.examine.new.cells _ c.are_other.result shown (simp (length-take, length-replicate) (omega arith)) c.as_slice-before.ensures.exact c.are_other.ensures
