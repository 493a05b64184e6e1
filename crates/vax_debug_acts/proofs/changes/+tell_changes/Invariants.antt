use Rattle.std.proofs.Common.{length}
use Rattle.vax_debug_acts.proofs.changes.+tell_changes.Given as goal

abbrev pub decreases-tell_changes : goal.decreases-tell_changes
decreases-tell_changes g l = length l.before.now
