use Rattle.vax_flat.specs.Accesses.{Went}
use Rattle.vax_flat.specs.System.{performed}
use Rattle.vax_undo.specs.Transaction.{traced}
use Rattle.vax_operand.proofs.Everywhere.{everywhere}
use Rattle.vax_x_sys.proofs.run.Goals as goal

pub returns-clause-everywhere : goal.returns-clause-everywhere
returns-clause-everywhere g c =
    let before = traced g.P.Port.view g.P.Port.trail c.args.txn.now in
    everywhere Went (performed c.args.instruction before.state) before _ (traced g.P.Port.view g.P.Port.trail c.perform.new.txn) c.perform.ensures.exact
