use Rattle.vax_undo.specs.Transaction.{bare, state_of}
use Rattle.vax_undo.proofs.Undo.{restart_here}
use Rattle.vax_undo.proofs.txn.Txn.begin.Goals as goal

pub returns-clause-undone : goal.returns-clause-undone
returns-clause-undone g c = rw (c.forget.ensures, c.origin_of-origin.ensures) (restart_here (bare (record { state = state_of c.args.core.now c.args.term.now; view = g.P.Port.view c.args.port.now })))
