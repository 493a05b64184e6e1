use Rattle.std.proofs.Common.{◌≡◌, ◌+◌, ◌≤◌, ℕ, List, Option}
use Rattle.vax_flat.specs.State.{State}
use Rattle.vax_flat.specs.Accesses.{Accesses, Leaf}
use Rattle.vax_flat.specs.Call.{named, saved}
use Rattle.vax_flat.specs.OverPort.{over_port}
use Rattle.vax_quick.specs.Frames.{HasRoom}
use Rattle.vax_quick.specs.Made.{at_console}
use Rattle.vax_quick.proofs.stack.save.Given as goal

-- the registers below n remain to be pushed
abbrev pub invariant-loop-n : goal.invariant-loop-n
invariant-loop-n g l = record {
  few : l.n ≤ 12;
  follows : (input : List ℕ) (taken : ℕ) (sent : Option ℕ) (next : ℕ → State → Accesses Leaf) →
      over_port (saved (named 12 l.mask) l.top (at_console l.core input taken sent) next) (g.P.Port.view l.fn.port) ≡ over_port (saved (named l.n l.mask) l.at (at_console l.core input taken sent) next) (g.P.Port.view l.port);
  room : HasRoom (g.P.Port.view l.port) l.core l.at (l.n + 5);
  since : (start : _) → g.P.Port.since start l.fn.port → g.P.Port.since start l.port;
}

abbrev pub decreases-loop-n : goal.decreases-loop-n
decreases-loop-n g l = l.n
