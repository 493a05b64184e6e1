use Rattle.std.proofs.Common.{refl, ap, arith, rules}
use Rattle.vax_undo.specs.Transaction.{present, with_view}
use Rattle.vax_undo.proofs.Open.{run_left}
use Rattle.vax_undo.proofs.txn.Txn.write_run.Goals as goal

pub returns-clause-left : goal.returns-clause-left
returns-clause-left g c =
    run_left g.P.Port.view g.P.Port.since c.args.self.now (record { core = _; term = _; port = _; log = _; origin = _; why = _ }) c.args.addr c.args.from.now c.args.mode refl refl
    (ap (with_view (present g.P.Port.view c.args.self.now)) c.write_run.ensures.stored) (search rules) (omega arith)
