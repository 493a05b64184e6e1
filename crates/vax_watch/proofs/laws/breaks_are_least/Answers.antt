use Rattle.vax_watch.proofs.Breaking.{stop_break, stop_first}
use Rattle.vax_watch.proofs.laws.breaks_are_least.Goals as goal

pub returns-clause-first : goal.returns-clause-first
returns-clause-first c = stop_break

pub returns-clause-only : goal.returns-clause-only
returns-clause-only c = stop_first
