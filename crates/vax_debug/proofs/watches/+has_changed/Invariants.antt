use Rattle.std.proofs.Common.{length}
use Rattle.vax_debug.proofs.watches.+has_changed.Given as goal

abbrev pub decreases-has_changed : goal.decreases-has_changed
decreases-has_changed g l = length l.seen.now
