use Rattle.std.proofs.Common.{None}
use Rattle.vax_flat.specs.State.{with_sent}
use Rattle.vax_undo.specs.Transaction.{bare, present, with_state}
use Rattle.vax_undo.proofs.Undo.{restart_here}
use Rattle.vax_undo.proofs.txn.Txn.renew.Goals as goal

pub returns-clause-undone : goal.returns-clause-undone
returns-clause-undone g c =
    let before = bare (present g.P.Port.view c.args.self.now) in
    rw (c.forget.ensures, c.origin_of-self.ensures) (restart_here (with_state before (with_sent before.state None)))
