use Rattle.std.proofs.Common.{◌≡◌}
use Rattle.vax_space.specs.Reference.{violation}
use Rattle.vax_space.proofs.Space.check_pages.Given as goal

abbrev pub invariant-loop-left : goal.invariant-loop-left
invariant-loop-left l = violation l.self l.at l.left l.mode l.access ≡ violation l.self l.addr l.len l.mode l.access

abbrev pub decreases-loop-left : goal.decreases-loop-left
decreases-loop-left l = l.left
