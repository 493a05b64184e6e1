use Rattle.vax_flat.specs.Delivery.{delivery}
use Rattle.vax_flat.proofs.Quiet.{quiet_delivery}
use Rattle.vax_undo.specs.Transaction.{traced, told}
use Rattle.vax_x_sys.proofs.Raised.{raised_nothing}
use Rattle.vax_x_sys.proofs.delivery.deliver.Goals as goal

pub returns-clause-quiet : goal.returns-clause-quiet
returns-clause-quiet g c =
    let before = traced g.P.Port.view g.P.Port.trail c.args.txn.now in
    raised_nothing (delivery c.args.exception before.state) before (traced g.P.Port.view g.P.Port.trail c.deliver_by_vector.new.txn) (told c.deliver_by_vector.new.txn c.deliver_by_vector.result)
    (λ next quiet. quiet_delivery next quiet c.args.exception before.state) c.deliver_by_vector.ensures.exact
