use Rattle.vax_flat.specs.Delivery.{interrupt}
use Rattle.vax_flat.proofs.Quiet.{quiet_interrupt}
use Rattle.vax_undo.specs.Transaction.{traced, told}
use Rattle.vax_x_sys.proofs.Raised.{raised_nothing}
use Rattle.vax_x_sys.proofs.delivery.interrupt.Goals as goal

pub returns-clause-quiet : goal.returns-clause-quiet
returns-clause-quiet g c =
    let before = traced g.P.Port.view g.P.Port.trail c.args.txn.now in
    raised_nothing (interrupt c.args.level before.state) before (traced g.P.Port.view g.P.Port.trail c.interrupt_by_vector.new.txn) (told c.interrupt_by_vector.new.txn c.interrupt_by_vector.result)
    (λ next quiet. quiet_interrupt next quiet c.args.level before.state) c.interrupt_by_vector.ensures.exact
