use Rattle.std.proofs.Common.{length}
use Rattle.vax_undo.proofs.log.Log.forget.Given as goal

abbrev pub decreases-loop : goal.decreases-loop
decreases-loop l = length l.self.entries.items
