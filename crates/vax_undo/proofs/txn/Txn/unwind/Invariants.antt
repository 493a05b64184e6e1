use Rattle.std.proofs.Common.{◌≡◌, length, vec_len}
use Rattle.vax_undo.specs.Transaction.{bare, state_of, present, trail_undone, undo_all, AllowsAll}
use Rattle.vax_undo.proofs.txn.Txn.unwind.Given as goal

-- what is left of the log, undone from here, gives what the whole log gives from the start
abbrev pub invariant-loop-entry : goal.invariant-loop-entry
invariant-loop-entry g l = record {
  undone : undo_all l.log.entries.items (bare (record { state = state_of l.core l.term; view = g.P.Port.view l.port })) ≡ undo_all l.fn.self.log.now.entries.items (bare (present g.P.Port.view l.fn.self));
  ready : AllowsAll (vec_len l.fn.self.term.now.input) (g.P.Port.view l.port).areas (g.P.Port.view l.port).resident (g.P.Port.view l.port).marked l.log.entries.items;
  marks : (g.P.Port.view l.port).marked ≡ (g.P.Port.view l.fn.self.port.now).marked;
  trail : trail_undone l.log.entries.items (g.P.Port.trail l.port) ≡ trail_undone l.fn.self.log.now.entries.items (g.P.Port.trail l.fn.self.port.now);
  input : l.term.input ≡ l.fn.self.term.now.input;
  since : (start : _) → g.P.Port.since start l.fn.self.port.now → g.P.Port.since start l.port;
}

abbrev pub decreases-loop-entry : goal.decreases-loop-entry
decreases-loop-entry g l = length l.log.entries.items
