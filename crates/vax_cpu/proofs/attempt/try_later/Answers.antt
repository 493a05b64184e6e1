use Rattle.std.proofs.Common.{◌≤◌, ◌∙◌, ap, subst, sym, rules}
use Rattle.vax_word.specs.declared.Core.{Core}
use Rattle.vax_cpu.specs.declared.attempt.Tried.TheVariants as tried
use Rattle.vax_x_str.specs.Ends.{ClosesIfDone}
use Rattle.vax_undo.specs.FirstPart.{NothingOpen}
use Rattle.vax_flat.specs.OverPort.{Present, Follows}
use Rattle.vax_flat.specs.Parts.{later, later_step}
use Rattle.vax_undo.specs.Rooms.{room_of_step}
use Rattle.vax_undo.specs.Transaction.{bare, present, told, traced, seen}
use Rattle.vax_cpu.proofs.Attempts.{clock_at, clock_unless, closed_at, leads_back, tried_at}
use Rattle.vax_undo.specs.Trail.{Traced, FollowsTraced}
use Rattle.vax_cpu.specs.Trail.{traced_of}
use Rattle.vax_cpu.proofs.Trails.{begun, plain, trail_at}
use Rattle.vax_cpu.proofs.attempt.try_later.Goals as goal

pub returns-clause-tried : goal.returns-clause-tried
returns-clause-tried g c =
    let old : Present = seen g.P.Port.view c.args.core.now c.args.term.now c.args.port.now in
    tried_at (later_step c.args.opcode) old c.conclude.result (record { state = _; view = _ }) _ _ (search rules) (search rules)
    (c.conclude.ensures.tried old (later c.args.opcode)
    (subst (λ (p : Present). Follows ((later c.args.opcode) p.state) p (told c.work_later-done.new.txn c.work_later-done.result) (present g.P.Port.view c.work_later-done.new.txn)) c.begin-txn.ensures.present (plain g.P.Port.view g.P.Port.trail (later c.args.opcode) c.work_later-done.result c.begin-txn.result c.work_later-done.new.txn c.work_later-done.ensures.exact))
    (leads_back g.P.Port.view g.P.Port.since room_of_step c.work_later-done.result c.begin-txn.result c.work_later-done.new.txn c.work_later-done.ensures.keeps old (c.begin-txn.ensures.undone ∙ ap bare c.begin-txn.ensures.present)))

pub returns-clause-clock : goal.returns-clause-clock
returns-clause-clock g c = λ within.
    let begun = c.begin-txn.ensures.undone ∙ ap bare c.begin-txn.ensures.present in
    clock_at _ c.conclude.new.txn.0.clock c.conclude.result (search rules) (c.conclude.ensures.clock
    (clock_unless g.P.Port.view g.P.Port.since room_of_step c.work_later-done.result c.begin-txn.result c.work_later-done.new.txn c.work_later-done.ensures.keeps (subst (λ (p : Present). p.state.core.clock ≤ 999) (sym begun) within))
    (c.work_later-done.ensures.same.clock (subst (λ (p : Present). p.state.core.clock ≤ 999) (sym c.begin-txn.ensures.present) within)))

pub returns-clause-closed : goal.returns-clause-closed
returns-clause-closed g c = λ sent is.
    let kept = c.conclude.ensures.kept sent is in
    let done = c.conclude.ensures.completed sent is in
    closed_at _ c.conclude.new.txn.0.psl (tried.Step sent) (search rules)
    (subst (λ (x : Core). NothingOpen x.psl) (sym kept) (subst (λ w. ClosesIfDone w c.work_later-done.new.txn.core.now.psl) done c.work_later-done.ensures.closed))

pub returns-clause-traces : goal.returns-clause-traces
returns-clause-traces g c =
    let old = traced_of g.P.Port.view g.P.Port.trail c.args.core.now c.args.term.now c.args.port.now in
    trail_at (later_step c.args.opcode) old c.conclude.result _ _ (search rules)
    (c.conclude.ensures.traces old (later c.args.opcode)
    (subst (λ (t : Traced). FollowsTraced ((later c.args.opcode) t.state) t (told c.work_later-done.new.txn c.work_later-done.result) (traced g.P.Port.view g.P.Port.trail c.work_later-done.new.txn))
    (begun g.P.Port.view g.P.Port.trail c.begin-txn.result c.args.core.now c.args.term.now c.args.port.now c.begin-txn.ensures.present c.begin-txn.ensures.lent) c.work_later-done.ensures.exact))
