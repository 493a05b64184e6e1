use Rattle.vax_machine.specs.Meaning.{engine}
use Rattle.vax_watch.proofs.Filled.{page_turned}
use Rattle.vax_watch.proofs.filling.turn_page.Goals as goal

pub returns-in_ok-page-clause-turns : goal.returns-in_ok-page-clause-turns
returns-in_ok-page-clause-turns g c = λ place means h.
    page_turned (engine c.args.machine.now) (g.F.PageFile.contents c.args.file.now) c.args.address c.in_ok-page.field-0 c.ranges.address.fits c.in_ok-page.ensures.none c.in_ok-page.ensures.bytes place means
