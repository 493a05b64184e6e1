use Rattle.std.proofs.Common.{◌≡◌, ◌-◌, ◌≤◌, ℕ, List, Option}
use Rattle.vax_flat.specs.State.{State}
use Rattle.vax_flat.specs.Accesses.{Accesses, Leaf}
use Rattle.vax_flat.specs.Call.{named, restored}
use Rattle.vax_flat.specs.OverPort.{over_port}
use Rattle.vax_x_call.proofs.StackLaws.{rest}
use Rattle.vax_quick.specs.Made.{Reads, at_console}
use Rattle.vax_quick.proofs.stack.restore.Given as goal

-- the registers from n on remain to be popped
abbrev pub invariant-loop-n : goal.invariant-loop-n
invariant-loop-n g l = record {
  few : l.n ≤ l.end;
  within : l.end ≤ 12;
  follows : (input : List ℕ) (taken : ℕ) (sent : Option ℕ) (next : ℕ → State → Accesses Leaf) →
      over_port (restored (named 12 l.mask) l.from (at_console l.fn.core input taken sent) next) (g.P.Port.view l.fn.port) ≡ over_port (restored (rest l.mask l.n l.end) l.at (at_console l.core input taken sent) next) (g.P.Port.view l.port);
  reads : Reads g.P.Port.view g.P.Port.since l.fn.core l.fn.port l.core l.port;
}

abbrev pub decreases-loop-n : goal.decreases-loop-n
decreases-loop-n g l = l.end - l.n
