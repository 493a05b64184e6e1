use Rattle.std.proofs.Common.{length, vec_len}
use Rattle.vax_undo.specs.Transaction.{bare, present, undo_all, AllowsAll}
use Rattle.vax_undo.proofs.Open.{IsBackTo}
use Rattle.vax_undo.proofs.txn.Txn.commit_part.Given as goal

-- what is left of the log, undone from these registers, gives what the whole log gives
abbrev pub invariant-loop-last : goal.invariant-loop-last
invariant-loop-last g l = record {
  back : IsBackTo l.start l.log.entries.items (undo_all l.fn.self.log.now.entries.items (bare (present g.P.Port.view l.fn.self)));
  ready : AllowsAll (vec_len l.fn.self.term.now.input) (g.P.Port.view l.fn.self.port.now).areas (g.P.Port.view l.fn.self.port.now).resident (g.P.Port.view l.fn.self.port.now).marked l.log.entries.items;
}

abbrev pub decreases-loop-last : goal.decreases-loop-last
decreases-loop-last g l = length l.log.entries.items
