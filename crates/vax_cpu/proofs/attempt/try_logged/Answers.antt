use Rattle.std.proofs.Common.{◌≡◌, ◌≤◌, ◌∙◌, true, false, None, Ok, ap, subst, sym, arith, rules}
use Rattle.vax_flat.specs.declared.Flow.TheVariants as flow
use Rattle.vax_flat.specs.OverPort.{Present, Follows}
use Rattle.vax_flat.specs.Parts.{part, part_step}
use Rattle.vax_undo.specs.FirstPart.{NothingOpen}
use Rattle.vax_undo.specs.Rooms.{room_of_step}
use Rattle.vax_undo.specs.Transaction.{present, told, KeepsUnlessDone}
use Rattle.vax_x_str.specs.Ends.{ClosesIfDone}
use Rattle.vax_cpu.specs.Tried.{came, is_done}
use Rattle.vax_cpu.proofs.Attempts.{clock_at, clock_unless, closed_at, closed_unless, closes_through, still_closed, came_done, came_other, renewed_step, sent_step, ran_more, tried_at, leads_back}
use Rattle.vax_undo.specs.Trail.{Traced}
use Rattle.vax_undo.proofs.Trail.{present_of}
use Rattle.vax_cpu.proofs.Trails.{plain}
use Rattle.vax_cpu.proofs.attempt.try_logged.Goals as goal

pub loop-steps-preserved : goal.loop-steps-preserved
loop-steps-preserved g c =
    let view = g.P.Port.view in
    let inv = c.loop-steps.invariant in
    let same = c.work-done.ensures.same in
    let now = present view c.loop-steps.txn in
    let mid = present view c.work-done.new.txn in
    let done = came_done c.work-done.result c.work-done.new.other (search rules) in
    let follows : Follows (part now.state) now (Ok flow.Done) mid = subst (λ w. Follows (part now.state) now (told c.work-done.new.txn w) mid) done (plain view g.P.Port.trail part _ c.loop-steps.txn c.work-done.new.txn c.work-done.ensures.exact) in
    record {
      ran = ran_more c.loop-steps.steps _ now (present view c.renew.new.self) inv.ran
          (renewed_step now mid (present view c.renew.new.self) follows (ap present_of c.renew.ensures.present) c.in-None.ensures.sent)
          (ap (λ v. v.items) (c.renew.ensures.same.input ∙ same.input));
      few = omega arith;
      undone = c.renew.ensures.undone;
      room = c.renew.ensures.room;
      ready = c.renew.ensures.ready;
      core = c.renew.ensures.same.core ∙ same.core ∙ inv.core;
      term = c.renew.ensures.same.term ∙ same.term ∙ inv.term;
      port = c.renew.ensures.same.port ∙ same.port ∙ inv.port;
      unsent = ap (λ (p : Traced). p.state.sent) c.renew.ensures.present;
      input = c.renew.ensures.same.input ∙ same.input ∙ inv.input;
      clock = λ h. c.renew.ensures.same.clock (same.clock (inv.clock h));
      closed = λ h. still_closed c.work-done.new.txn.core.now.psl c.renew.new.self.core.now.psl c.renew.ensures.closed
          (subst (λ w. ClosesIfDone w c.work-done.new.txn.core.now.psl) done
          (closes_through view g.P.Port.since room_of_step (came c.work-done.result c.work-done.new.other) c.loop-steps.txn c.work-done.new.txn c.work-done.ensures.keeps (inv.closed h)));
      since = λ start h. c.renew.ensures.same.since start (same.since start (inv.since start h));
    }

pub returns-in-Some-clause-ran : goal.returns-in-Some-clause-ran
returns-in-Some-clause-ran g c =
    let view = g.P.Port.view in
    let now = present view c.loop-steps.txn in
    let mid = present view c.work-done.new.txn in
    let done = came_done c.work-done.result c.work-done.new.other (search rules) in
    let follows : Follows (part now.state) now (Ok flow.Done) mid = subst (λ w. Follows (part now.state) now (told c.work-done.new.txn w) mid) done (plain view g.P.Port.trail part _ c.loop-steps.txn c.work-done.new.txn c.work-done.ensures.exact) in (
      now,
      c.loop-steps.invariant.ran,
      sent_step now mid (present view c.renew.new.self) (record { state = _; view = _ }) c.in-Some.byte follows
          (ap present_of c.renew.ensures.present) (search rules) (search rules) c.in-Some.ensures.sent,
    )

pub returns-clause-ran : goal.returns-clause-ran
returns-clause-ran g c =
    let now = present g.P.Port.view c.loop-steps.txn in (
      now,
      c.loop-steps.invariant.ran,
      tried_at part_step now c.conclude-last-2.result (record { state = _; view = _ }) _ _ (search rules) (search rules)
          (c.conclude-last-2.ensures.tried now part (plain g.P.Port.view g.P.Port.trail part _ c.loop-steps.txn c.work_once-done.new.txn c.work_once-done.ensures.exact)
          (leads_back g.P.Port.view g.P.Port.since room_of_step c.work_once-done.result c.loop-steps.txn c.work_once-done.new.txn c.work_once-done.ensures.keeps now c.loop-steps.invariant.undone)),
    )

pub returns-then-not-done-clause-ran : goal.returns-then-not-done-clause-ran
returns-then-not-done-clause-ran g c =
    let view = g.P.Port.view in
    let now = present view c.loop-steps.txn in
    let is = came_other c.work-done.result c.work-done.new.other (search rules) in
    let keeps = subst (λ w. KeepsUnlessDone view g.P.Port.since room_of_step w c.loop-steps.txn c.work-done.new.txn) is c.work-done.ensures.keeps in (
      now,
      c.loop-steps.invariant.ran,
      tried_at part_step now c.conclude-last.result (record { state = _; view = _ }) _ _ (search rules) (search rules)
          (c.conclude-last.ensures.tried now part
          (subst (λ w. Follows (part now.state) now (told c.work-done.new.txn w) (present view c.work-done.new.txn)) is (plain view g.P.Port.trail part _ c.loop-steps.txn c.work-done.new.txn c.work-done.ensures.exact))
          (leads_back view g.P.Port.since room_of_step c.work-done.new.other c.loop-steps.txn c.work-done.new.txn keeps now c.loop-steps.invariant.undone)),
    )

pub returns-then-not-done-clause-all : goal.returns-then-not-done-clause-all
returns-then-not-done-clause-all g c = λ step.
    let is = came_other c.work-done.result c.work-done.new.other (search rules) in
    let done : c.work-done.result ≡ true = c.work-done.ensures.done ∙ ap is_done (is ∙ c.conclude-last.ensures.completed None step) in
    let not : c.work-done.result ≡ false = search rules in
    let no : true ≡ false = sym done ∙ not in
    cc

pub returns-clause-clock : goal.returns-clause-clock
returns-clause-clock g c = λ within.
    let now = c.loop-steps.invariant.clock within in
    clock_at _ c.conclude-last-2.new.txn.0.clock c.conclude-last-2.result (search rules) (c.conclude-last-2.ensures.clock
    (clock_unless g.P.Port.view g.P.Port.since room_of_step c.work_once-done.result c.loop-steps.txn c.work_once-done.new.txn c.work_once-done.ensures.keeps (subst (λ (p : Present). p.state.core.clock ≤ 999) (sym c.loop-steps.invariant.undone) now))
    (c.work_once-done.ensures.same.clock now))

pub returns-then-not-done-clause-clock : goal.returns-then-not-done-clause-clock
returns-then-not-done-clause-clock g c = λ within.
    let now = c.loop-steps.invariant.clock within in
    let is = came_other c.work-done.result c.work-done.new.other (search rules) in
    let keeps = subst (λ w. KeepsUnlessDone g.P.Port.view g.P.Port.since room_of_step w c.loop-steps.txn c.work-done.new.txn) is c.work-done.ensures.keeps in
    clock_at _ c.conclude-last.new.txn.0.clock c.conclude-last.result (search rules) (c.conclude-last.ensures.clock
    (clock_unless g.P.Port.view g.P.Port.since room_of_step c.work-done.new.other c.loop-steps.txn c.work-done.new.txn keeps (subst (λ (p : Present). p.state.core.clock ≤ 999) (sym c.loop-steps.invariant.undone) now))
    (c.work-done.ensures.same.clock now))

pub returns-clause-closed : goal.returns-clause-closed
returns-clause-closed g c = λ closed.
    let now = c.loop-steps.invariant.closed closed in
    closed_at _ c.conclude-last-2.new.txn.0.psl c.conclude-last-2.result (search rules) (c.conclude-last-2.ensures.closed
    (closed_unless g.P.Port.view g.P.Port.since room_of_step c.work_once-done.result c.loop-steps.txn c.work_once-done.new.txn c.work_once-done.ensures.keeps (subst (λ (p : Present). NothingOpen p.state.core.psl) (sym c.loop-steps.invariant.undone) now))
    (closes_through g.P.Port.view g.P.Port.since room_of_step c.work_once-done.result c.loop-steps.txn c.work_once-done.new.txn c.work_once-done.ensures.keeps now))

pub returns-then-not-done-clause-closed : goal.returns-then-not-done-clause-closed
returns-then-not-done-clause-closed g c = λ closed.
    let now = c.loop-steps.invariant.closed closed in
    let is = came_other c.work-done.result c.work-done.new.other (search rules) in
    let keeps = subst (λ w. KeepsUnlessDone g.P.Port.view g.P.Port.since room_of_step w c.loop-steps.txn c.work-done.new.txn) is c.work-done.ensures.keeps in
    closed_at _ c.conclude-last.new.txn.0.psl c.conclude-last.result (search rules) (c.conclude-last.ensures.closed
    (closed_unless g.P.Port.view g.P.Port.since room_of_step c.work-done.new.other c.loop-steps.txn c.work-done.new.txn keeps (subst (λ (p : Present). NothingOpen p.state.core.psl) (sym c.loop-steps.invariant.undone) now))
    (closes_through g.P.Port.view g.P.Port.since room_of_step c.work-done.new.other c.loop-steps.txn c.work-done.new.txn keeps now))

pub returns-in-Some-clause-closed : goal.returns-in-Some-clause-closed
returns-in-Some-clause-closed g c = λ closed.
    let done = came_done c.work-done.result c.work-done.new.other (search rules) in
    let mid = closes_through g.P.Port.view g.P.Port.since room_of_step (came c.work-done.result c.work-done.new.other) c.loop-steps.txn c.work-done.new.txn c.work-done.ensures.keeps (c.loop-steps.invariant.closed closed) in
    let ended = still_closed c.work-done.new.txn.core.now.psl c.renew.new.self.core.now.psl c.renew.ensures.closed (subst (λ w. ClosesIfDone w c.work-done.new.txn.core.now.psl) done mid) in
    search (rules, ended)
