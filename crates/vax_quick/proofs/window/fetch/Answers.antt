use Rattle.vax_quick.proofs.Stays.{not_moved}
use Rattle.vax_quick.proofs.window.fetch.Goals as goal

pub returns-in_err-window-clause-moved : goal.returns-in_err-window-clause-moved
returns-in_err-window-clause-moved g c = not_moved c.args.core.now
