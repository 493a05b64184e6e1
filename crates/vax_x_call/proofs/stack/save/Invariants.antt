use Rattle.std.proofs.Common.{◌≡◌, ◌-◌, ◌≤◌, ℕ}
use Rattle.vax_flat.specs.State.{State}
use Rattle.vax_flat.specs.Accesses.{Accesses, Leaf}
use Rattle.vax_flat.specs.Call.{named, saved}
use Rattle.vax_undo.specs.Trail.{over_trail}
use Rattle.vax_undo.specs.Transaction.{traced, Keeps}
use Rattle.vax_x_call.proofs.stack.save.Given as goal

-- the registers below n remain to be pushed
abbrev pub invariant-loop-n : goal.invariant-loop-n
invariant-loop-n g l = record {
  few : l.n ≤ l.count;
  follows : (next : ℕ → State → Accesses Leaf) → over_trail (saved (named l.count l.mask) l.top (traced g.P.Port.view g.P.Port.trail l.initial.txn).state next) (traced g.P.Port.view g.P.Port.trail l.initial.txn).view (traced g.P.Port.view g.P.Port.trail l.initial.txn).trail ≡ over_trail (saved (named l.n l.mask) l.at (traced g.P.Port.view g.P.Port.trail l.txn).state next) (traced g.P.Port.view g.P.Port.trail l.txn).view (traced g.P.Port.view g.P.Port.trail l.txn).trail;
  keeps : Keeps g.P.Port.view g.P.Port.since (l.count - l.n) l.initial.txn l.txn;
}

abbrev pub decreases-loop-n : goal.decreases-loop-n
decreases-loop-n g l = l.n
