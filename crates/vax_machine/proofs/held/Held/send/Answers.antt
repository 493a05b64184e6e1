use Rattle.std.proofs.Common.{Bool, OnOk, refl, subst}
use Rattle.vax_machine.proofs.Delivering.{open_sent, passed_delivers}
use Rattle.vax_machine.proofs.Holding.{passed_like, passes_on}
use Rattle.vax_machine.proofs.Outputs.{counts_like, err_like, then_counts, then_writes}
use Rattle.vax_machine.specs.Delivery.{WritesDue, ends_line}
use Rattle.vax_machine.proofs.held.Held.send.Goals as goal

pub returns-in_err-hold_sent-clause-passes : goal.returns-in_err-hold_sent-clause-passes
returns-in_err-hold_sent-clause-passes g c =
    passed_like _ _ _ _ _ _ c.from_residual.result c.hold_sent.result
    (err_like c.from_residual.result c.hold_sent.result _ c.from_residual.ensures.1 c.in_err-hold_sent.was) c.hold_sent.ensures.passes

pub returns-in_err-hold_sent-clause-counts : goal.returns-in_err-hold_sent-clause-counts
returns-in_err-hold_sent-clause-counts g c = λ file.
    counts_like c.from_residual.result c.hold_sent.result _ _ _ _ (err_like c.from_residual.result c.hold_sent.result _ c.from_residual.ensures.1 c.in_err-hold_sent.was) (c.hold_sent.ensures.counts file)

pub returns-clause-passes : goal.returns-clause-passes
returns-clause-passes g c = passes_on _ _ _ _ _ _ _ c.write_due.result c.in_ok-hold_sent.ensures.passes c.write_due.ensures.passes

pub returns-clause-still : goal.returns-clause-still
returns-clause-still g c = then_writes _ _ _ _ _ _ c.hold_sent.ensures.still c.write_due.ensures.still

pub returns-clause-counts : goal.returns-clause-counts
returns-clause-counts g c = λ file. then_counts c.write_due.result file file file _ _ _ refl (c.in_ok-hold_sent.ensures.counts file).sink.quiet (c.write_due.ensures.counts file)

pub returns-clause-delivers : goal.returns-clause-delivers
returns-clause-delivers g c = λ since low.
    passed_delivers _ (ends_line c.args.sent) (open_sent c.args.sent) since c.args.steps low c.args.self.now _ _ _ _ _ c.in_ok-hold_sent.ensures.passes c.hold_sent.ensures.due c.write_due.result c.write_due.ensures.passes
    (subst (λ (b : Bool). OnOk c.write_due.result (WritesDue b c.args.steps c.hold_sent.new.self c.write_due.new.self)) c.ends_line.ensures c.write_due.ensures.due)
