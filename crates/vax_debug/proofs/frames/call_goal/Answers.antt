use Rattle.std.proofs.Common.{◌≡◌, ◌∙◌, sym}
use Rattle.vax_machine.specs.Meaning.{engine}
use Rattle.vax_console.proofs.Requested.{same_core}
use Rattle.vax_debug.specs.Calls.{bytes_of}
use Rattle.vax_debug.proofs.Calling.{told_call}
use Rattle.vax_debug.proofs.frames.call_goal.Goals as goal

pub returns-in-Ok-clause-tells : goal.returns-in-Ok-clause-tells
returns-in-Ok-clause-tells g c = λ sink o s replies here.
    let is : c.deref.result.now ≡ bytes_of c.examine.new.cells = cc in
    told_call s.machine c.core.result.now c.examine.new.cells c.deref.result.now c.behind_call.result
    (same_core (engine c.args.machine.now) (g.F.PageFile.contents c.args.file.now) s.machine here.at.means ∙ sym c.core.ensures)
    (c.in-Ok.ensures.shows sink o s replies here) is c.behind_call.ensures
