use Rattle.std.proofs.Common.{◌≡◌, ◌≤◌, ◌∙◌, true, false, None, Some, Ok, refl, ap, subst, sym, rules}
use Rattle.vax_flat.specs.declared.Flow.TheVariants as flow
use Rattle.vax_flat.specs.OverPort.{Present, Follows}
use Rattle.vax_flat.specs.State.{with_sent}
use Rattle.vax_flat.specs.Parts.{part, part_step}
use Rattle.vax_undo.specs.FirstPart.{NothingOpen}
use Rattle.vax_undo.specs.Rooms.{room_of_step}
use Rattle.vax_undo.specs.Transaction.{bare, present, told, seen, KeepsUnlessDone}
use Rattle.vax_cpu.specs.Tried.{IsTried, is_done}
use Rattle.vax_cpu.proofs.Attempts.{clock_at, clock_unless, closed_at, closed_unless, closes_through, came_done, came_other, kept, tried_at, leads_back}
use Rattle.vax_cpu.proofs.Trails.{plain}
use Rattle.vax_cpu.proofs.attempt.try_apart.Goals as goal

pub returns-then-not-done-clause-tried : goal.returns-then-not-done-clause-tried
returns-then-not-done-clause-tried g c =
    let view = g.P.Port.view in
    let old : Present = seen view c.args.core.now c.args.term.now c.args.port.now in
    let now = present view c.begin-txn.result in
    let is = came_other c.work_apart-done.result c.work_apart-done.new.other (search rules) in
    let keeps = subst (λ w. KeepsUnlessDone view g.P.Port.since room_of_step w c.begin-txn.result c.work_apart-done.new.txn) is c.work_apart-done.ensures.keeps in
    tried_at part_step old c.conclude.result (record { state = _; view = _ }) _ _ (search rules) (search rules)
    (c.conclude.ensures.tried old part
    (subst (λ (p : Present). Follows (part p.state) p (told c.work_apart-done.new.txn c.work_apart-done.new.other) (present view c.work_apart-done.new.txn)) c.begin-txn.ensures.present
    (subst (λ w. Follows (part now.state) now (told c.work_apart-done.new.txn w) (present view c.work_apart-done.new.txn)) is (plain view g.P.Port.trail part _ c.begin-txn.result c.work_apart-done.new.txn c.work_apart-done.ensures.exact)))
    (leads_back view g.P.Port.since room_of_step c.work_apart-done.new.other c.begin-txn.result c.work_apart-done.new.txn keeps old (c.begin-txn.ensures.undone ∙ ap bare c.begin-txn.ensures.present)))

pub returns-then-not-done-clause-other : goal.returns-then-not-done-clause-other
returns-then-not-done-clause-other g c = λ _ step.
    let is = came_other c.work_apart-done.result c.work_apart-done.new.other (search rules) in
    let done : c.work_apart-done.result ≡ true = c.work_apart-done.ensures.done ∙ ap is_done (is ∙ c.conclude.ensures.completed None step) in
    let not : c.work_apart-done.result ≡ false = search rules in
    let no : true ≡ false = sym done ∙ not in
    cc

pub returns-then-not-done-clause-clock : goal.returns-then-not-done-clause-clock
returns-then-not-done-clause-clock g c = λ within.
    let view = g.P.Port.view in
    let begun = c.begin-txn.ensures.undone ∙ ap bare c.begin-txn.ensures.present in
    let is = came_other c.work_apart-done.result c.work_apart-done.new.other (search rules) in
    let keeps = subst (λ w. KeepsUnlessDone view g.P.Port.since room_of_step w c.begin-txn.result c.work_apart-done.new.txn) is c.work_apart-done.ensures.keeps in
    clock_at _ c.conclude.new.txn.0.clock c.conclude.result (search rules) (c.conclude.ensures.clock
    (clock_unless view g.P.Port.since room_of_step c.work_apart-done.new.other c.begin-txn.result c.work_apart-done.new.txn keeps (subst (λ (p : Present). p.state.core.clock ≤ 999) (sym begun) within))
    (c.work_apart-done.ensures.same.clock (subst (λ (p : Present). p.state.core.clock ≤ 999) (sym c.begin-txn.ensures.present) within)))

pub returns-then-not-done-clause-closed : goal.returns-then-not-done-clause-closed
returns-then-not-done-clause-closed g c = λ closed.
    let view = g.P.Port.view in
    let begun = c.begin-txn.ensures.undone ∙ ap bare c.begin-txn.ensures.present in
    let is = came_other c.work_apart-done.result c.work_apart-done.new.other (search rules) in
    let keeps = subst (λ w. KeepsUnlessDone view g.P.Port.since room_of_step w c.begin-txn.result c.work_apart-done.new.txn) is c.work_apart-done.ensures.keeps in
    closed_at _ c.conclude.new.txn.0.psl c.conclude.result (search rules) (c.conclude.ensures.closed
    (closed_unless view g.P.Port.since room_of_step c.work_apart-done.new.other c.begin-txn.result c.work_apart-done.new.txn keeps (subst (λ (p : Present). NothingOpen p.state.core.psl) (sym begun) closed))
    (closes_through view g.P.Port.since room_of_step c.work_apart-done.new.other c.begin-txn.result c.work_apart-done.new.txn keeps (subst (λ (p : Present). NothingOpen p.state.core.psl) (sym c.begin-txn.ensures.present) closed)))

pub returns-in-None-clause-tried : goal.returns-in-None-clause-tried
returns-in-None-clause-tried g c =
    let view = g.P.Port.view in
    let old : Present = seen view c.args.core.now c.args.term.now c.args.port.now in
    let now = present view c.begin-txn.result in
    let mid = present view c.work_apart-done.new.txn in
    let done = came_done c.work_apart-done.result c.work_apart-done.new.other (search rules) in
    let follows : Follows (part now.state) now (Ok flow.Done) mid = subst (λ w. Follows (part now.state) now (told c.work_apart-done.new.txn w) mid) done (plain view g.P.Port.trail part _ c.begin-txn.result c.work_apart-done.new.txn c.work_apart-done.ensures.exact) in
    let here : Follows (part old.state) old (Ok flow.Done) mid = subst (λ (p : Present). Follows (part p.state) p (Ok flow.Done) mid) c.begin-txn.ensures.present follows in
    let after : Present = record { state = with_sent mid.state None; view = mid.view } in
    tried_at part_step old c.args.last.now after _ _ (search rules) (search rules)
    (subst (λ t. IsTried part_step old t after) (sym c.requires.silent) (kept part old mid after None here refl refl c.in-None.ensures.sent))

pub returns-in-Some-clause-tried : goal.returns-in-Some-clause-tried
returns-in-Some-clause-tried g c =
    let view = g.P.Port.view in
    let old : Present = seen view c.args.core.now c.args.term.now c.args.port.now in
    let now = present view c.begin-txn.result in
    let mid = present view c.work_apart-done.new.txn in
    let done = came_done c.work_apart-done.result c.work_apart-done.new.other (search rules) in
    let follows : Follows (part now.state) now (Ok flow.Done) mid = subst (λ w. Follows (part now.state) now (told c.work_apart-done.new.txn w) mid) done (plain view g.P.Port.trail part _ c.begin-txn.result c.work_apart-done.new.txn c.work_apart-done.ensures.exact) in
    let here : Follows (part old.state) old (Ok flow.Done) mid = subst (λ (p : Present). Follows (part p.state) p (Ok flow.Done) mid) c.begin-txn.ensures.present follows in
    kept part old mid (record { state = _; view = _ }) (Some c.in-Some.byte) here (search rules) (search rules) c.in-Some.ensures.sent
