use Rattle.std.proofs.Common.{◌∙◌, sym}
use Rattle.vax_machine.specs.Meaning.{engine}
use Rattle.vax_console.proofs.Requested.{same_core}
use Rattle.vax_debug.proofs.Calling.{told_frame}
use Rattle.vax_debug.proofs.frames.frame_goal.Goals as goal

pub returns-in-Ok-clause-tells : goal.returns-in-Ok-clause-tells
returns-in-Ok-clause-tells g c = λ sink o s replies here.
    told_frame s.machine c.core.result.now c.in-Ok.address c.frame_at.result
    (same_core (engine c.args.machine.now) (g.F.PageFile.contents c.args.file.now) s.machine here.at.means ∙ sym c.core.ensures)
    (c.in-Ok.ensures.tells sink o s replies here) c.frame_at.ensures
