use Rattle.vax_undo.proofs.Undo.{loaded_fits}
use Rattle.vax_undo.proofs.txn.Txn.read.Goals as goal

pub returns-clause-fits : goal.returns-clause-fits
returns-clause-fits g c =
    loaded_fits (g.P.Port.view c.args.self.now.port.now) c.args.addr c.args.n c.args.mode _ c.read.ensures.bytes c.read.ensures.answer
