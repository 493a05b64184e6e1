use Rattle.vax_quick.proofs.Stays.{not_moved}
use Rattle.vax_quick.proofs.near.next_byte.Goals as goal

pub returns-then-window-eq0-clause-moved : goal.returns-then-window-eq0-clause-moved
returns-then-window-eq0-clause-moved g c = not_moved c.args.core.now
