use Rattle.vax_flat.specs.Accesses.{Found}
use Rattle.vax_flat.specs.Operand.{next_operand}
use Rattle.vax_undo.specs.Transaction.{traced}
use Rattle.vax_operand.proofs.Everywhere.{everywhere}
use Rattle.vax_operand.proofs.specifier.next.Goals as goal

pub returns-clause-everywhere : goal.returns-clause-everywhere
returns-clause-everywhere g c =
    let before = traced g.P.Port.view g.P.Port.trail c.args.txn.now in
    everywhere Found (next_operand c.args.kind before.state) before _ (traced g.P.Port.view g.P.Port.trail c.by_letter.new.txn) c.by_letter.ensures.exact
