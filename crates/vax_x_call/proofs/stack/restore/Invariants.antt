use Rattle.std.proofs.Common.{◌≡◌, ◌-◌, ◌≤◌, ℕ}
use Rattle.vax_flat.specs.State.{State}
use Rattle.vax_flat.specs.Accesses.{Accesses, Leaf}
use Rattle.vax_flat.specs.Call.{named, restored}
use Rattle.vax_undo.specs.Trail.{over_trail}
use Rattle.vax_undo.specs.Transaction.{traced, Keeps}
use Rattle.vax_x_call.proofs.StackLaws.{rest}
use Rattle.vax_x_call.proofs.stack.restore.Given as goal

-- the registers from n on remain to be popped
abbrev pub invariant-loop-n : goal.invariant-loop-n
invariant-loop-n g l = record {
  few : l.n ≤ l.end;
  within : l.end ≤ l.count;
  follows : (next : ℕ → State → Accesses Leaf) → over_trail (restored (named l.count l.mask) l.from (traced g.P.Port.view g.P.Port.trail l.initial.txn).state next) (traced g.P.Port.view g.P.Port.trail l.initial.txn).view (traced g.P.Port.view g.P.Port.trail l.initial.txn).trail ≡ over_trail (restored (rest l.mask l.n l.end) l.at (traced g.P.Port.view g.P.Port.trail l.txn).state next) (traced g.P.Port.view g.P.Port.trail l.txn).view (traced g.P.Port.view g.P.Port.trail l.txn).trail;
  keeps : Keeps g.P.Port.view g.P.Port.since l.n l.initial.txn l.txn;
}

abbrev pub decreases-loop-n : goal.decreases-loop-n
decreases-loop-n g l = l.end - l.n
