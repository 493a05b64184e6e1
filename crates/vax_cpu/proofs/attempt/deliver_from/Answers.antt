use Rattle.vax_flat.specs.OverPort.{Present}
use Rattle.vax_undo.specs.Transaction.{seen}
use Rattle.vax_cpu.proofs.Attempts.{closed_later}
use Rattle.vax_cpu.proofs.Settled.{put_absent, put_other}
use Rattle.vax_cpu.proofs.attempt.deliver_from.Goals as goal

pub returns-in-Absent-clause-delivered : goal.returns-in-Absent-clause-delivered
returns-in-Absent-clause-delivered g c =
    let mid : Present = seen g.P.Port.view c.try_delivery-delivered.new.core c.try_delivery-delivered.new.term c.try_delivery-delivered.new.port in
    (mid, c.try_delivery-delivered.ensures.tried, put_absent c.args.core.now c.try_delivery-delivered.result _ mid c.in-Absent.is)

pub returns-in_default-clause-delivered : goal.returns-in_default-clause-delivered
returns-in_default-clause-delivered g c =
    let mid : Present = seen g.P.Port.view c.try_delivery-delivered.new.core c.try_delivery-delivered.new.term c.try_delivery-delivered.new.port in
    (mid, c.try_delivery-delivered.ensures.tried, put_other c.args.core.now c.try_delivery-delivered.result mid c.in_default.not-Absent)

pub returns-in_default-clause-closed : goal.returns-in_default-clause-closed
returns-in_default-clause-closed g c = λ closed. closed_later c.try_delivery-delivered.new.core.psl c.try_delivery-delivered.result (c.try_delivery-delivered.ensures.closed closed)
