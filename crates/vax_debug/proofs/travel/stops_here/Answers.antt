use Rattle.std.proofs.Common.{refl}
use Rattle.vax_debug.proofs.travel.stops_here.Goals as goal

pub returns-in-Ok-clause-halts : goal.returns-in-Ok-clause-halts
returns-in-Ok-clause-halts g c = λ sink o s replies here. (c.in-Ok.ensures.tells sink o s replies here, c.has_halted.ensures.stays sink o s replies here)

pub returns-in-Err-clause-halts : goal.returns-in-Err-clause-halts
returns-in-Err-clause-halts g c = λ sink o s replies here. c.has_halted.ensures.stays sink o s replies here

pub returns-in-Ok-clause-counts : goal.returns-in-Ok-clause-counts
returns-in-Ok-clause-counts g c = λ sink. (c.in-Ok.ensures.counts.quiet, refl)

pub returns-in-Err-clause-counts : goal.returns-in-Err-clause-counts
returns-in-Err-clause-counts g c = λ sink. (c.in-Err.ensures.counts.later, c.in-Err.ensures.counts.cause, refl)
