use Rattle.std.proofs.Common.{◌≤◌, ◌∙◌, ap, subst, sym, rules}
use Rattle.vax_flat.specs.OverPort.{Present, Follows}
use Rattle.vax_flat.specs.Step.{delivered, whole_delivery}
use Rattle.vax_undo.specs.FirstPart.{NothingOpen}
use Rattle.vax_undo.specs.Rooms.{room_of_end}
use Rattle.vax_undo.specs.Transaction.{bare, present, told, traced, seen}
use Rattle.vax_cpu.proofs.Attempts.{clock_at, clock_unless, closed_at, closed_unless, closes_through, leads_back, quiet_final, tried_at}
use Rattle.vax_undo.specs.Trail.{Traced, FollowsTraced}
use Rattle.vax_cpu.specs.Trail.{traced_of}
use Rattle.vax_cpu.proofs.Trails.{begun, plain, trail_at}
use Rattle.vax_cpu.proofs.attempt.try_delivery.Goals as goal

pub returns-clause-tried : goal.returns-clause-tried
returns-clause-tried g c =
    let old : Present = seen g.P.Port.view c.args.core.now c.args.term.now c.args.port.now in
    tried_at (whole_delivery c.args.exception) old c.conclude.result (record { state = _; view = _ }) _ _ (search rules) (search rules)
    (c.conclude.ensures.tried old (delivered c.args.exception)
    (subst (λ (p : Present). Follows ((delivered c.args.exception) p.state) p (told c.work_delivery-done.new.txn c.work_delivery-done.result) (present g.P.Port.view c.work_delivery-done.new.txn)) c.begin-txn.ensures.present (plain g.P.Port.view g.P.Port.trail (delivered c.args.exception) c.work_delivery-done.result c.begin-txn.result c.work_delivery-done.new.txn c.work_delivery-done.ensures.exact))
    (leads_back g.P.Port.view g.P.Port.since room_of_end c.work_delivery-done.result c.begin-txn.result c.work_delivery-done.new.txn c.work_delivery-done.ensures.keeps old (c.begin-txn.ensures.undone ∙ ap bare c.begin-txn.ensures.present)))

pub returns-clause-quiet : goal.returns-clause-quiet
returns-clause-quiet g c =
    let old : Present = seen g.P.Port.view c.args.core.now c.args.term.now c.args.port.now in
    quiet_final c.args.exception old (record { state = _; view = _ }) c.conclude.result
    (c.conclude.ensures.tried old (delivered c.args.exception)
    (subst (λ (p : Present). Follows ((delivered c.args.exception) p.state) p (told c.work_delivery-done.new.txn c.work_delivery-done.result) (present g.P.Port.view c.work_delivery-done.new.txn)) c.begin-txn.ensures.present (plain g.P.Port.view g.P.Port.trail (delivered c.args.exception) c.work_delivery-done.result c.begin-txn.result c.work_delivery-done.new.txn c.work_delivery-done.ensures.exact))
    (leads_back g.P.Port.view g.P.Port.since room_of_end c.work_delivery-done.result c.begin-txn.result c.work_delivery-done.new.txn c.work_delivery-done.ensures.keeps old (c.begin-txn.ensures.undone ∙ ap bare c.begin-txn.ensures.present)))

pub returns-clause-clock : goal.returns-clause-clock
returns-clause-clock g c = λ within.
    let begun = c.begin-txn.ensures.undone ∙ ap bare c.begin-txn.ensures.present in
    clock_at _ c.conclude.new.txn.0.clock c.conclude.result (search rules) (c.conclude.ensures.clock
    (clock_unless g.P.Port.view g.P.Port.since room_of_end c.work_delivery-done.result c.begin-txn.result c.work_delivery-done.new.txn c.work_delivery-done.ensures.keeps (subst (λ (p : Present). p.state.core.clock ≤ 999) (sym begun) within))
    (c.work_delivery-done.ensures.same.clock (subst (λ (p : Present). p.state.core.clock ≤ 999) (sym c.begin-txn.ensures.present) within)))

pub returns-clause-closed : goal.returns-clause-closed
returns-clause-closed g c = λ closed.
    let begun = c.begin-txn.ensures.undone ∙ ap bare c.begin-txn.ensures.present in
    closed_at _ c.conclude.new.txn.0.psl c.conclude.result (search rules) (c.conclude.ensures.closed
    (closed_unless g.P.Port.view g.P.Port.since room_of_end c.work_delivery-done.result c.begin-txn.result c.work_delivery-done.new.txn c.work_delivery-done.ensures.keeps (subst (λ (p : Present). NothingOpen p.state.core.psl) (sym begun) closed))
    (closes_through g.P.Port.view g.P.Port.since room_of_end c.work_delivery-done.result c.begin-txn.result c.work_delivery-done.new.txn c.work_delivery-done.ensures.keeps (subst (λ (p : Present). NothingOpen p.state.core.psl) (sym c.begin-txn.ensures.present) closed)))

pub returns-clause-traces : goal.returns-clause-traces
returns-clause-traces g c =
    let old = traced_of g.P.Port.view g.P.Port.trail c.args.core.now c.args.term.now c.args.port.now in
    trail_at (whole_delivery c.args.exception) old c.conclude.result _ _ (search rules)
    (c.conclude.ensures.traces old (delivered c.args.exception)
    (subst (λ (t : Traced). FollowsTraced ((delivered c.args.exception) t.state) t (told c.work_delivery-done.new.txn c.work_delivery-done.result) (traced g.P.Port.view g.P.Port.trail c.work_delivery-done.new.txn))
    (begun g.P.Port.view g.P.Port.trail c.begin-txn.result c.args.core.now c.args.term.now c.args.port.now c.begin-txn.ensures.present c.begin-txn.ensures.lent) c.work_delivery-done.ensures.exact))
