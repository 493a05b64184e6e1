use Rattle.std.proofs.Common.{◌≡◌, ◌-◌, ◌≤◌}
use Rattle.vax_flat.specs.declared.Flow.{Flow}
use Rattle.vax_flat.specs.State.{State}
use Rattle.vax_flat.specs.Accesses.{Accesses, Leaf}
use Rattle.vax_undo.specs.Trail.{over_trail}
use Rattle.vax_flat.specs.StringMatch.{match_on}
use Rattle.vax_undo.specs.Transaction.{traced, Keeps}
use Rattle.vax_x_str.proofs.matching.match_within.Given as goal

-- so many units were made, and the rest of the part is that of what remains
abbrev pub invariant-loop-units : goal.invariant-loop-units
invariant-loop-units g l = record {
  few : l.units ≤ 512;
  within : l.rest.done ≤ l.rest.len1;
  follows : (next : Flow → State → Accesses Leaf) → over_trail (match_on 512 0 l.first l.second l.p (traced g.P.Port.view g.P.Port.trail l.initial.txn).state next) (traced g.P.Port.view g.P.Port.trail l.initial.txn).view (traced g.P.Port.view g.P.Port.trail l.initial.txn).trail ≡ over_trail (match_on (512 - l.units) l.units l.first l.second l.rest (traced g.P.Port.view g.P.Port.trail l.txn).state next) (traced g.P.Port.view g.P.Port.trail l.txn).view (traced g.P.Port.view g.P.Port.trail l.txn).trail;
  keeps : Keeps g.P.Port.view g.P.Port.since 0 l.initial.txn l.txn;
}

abbrev pub decreases-loop-units : goal.decreases-loop-units
decreases-loop-units g l = 512 - l.units
