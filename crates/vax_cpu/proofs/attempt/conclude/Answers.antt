use Rattle.std.proofs.Common.{◌≡◌, ◌∙◌, Ok, Err, ap, subst, sym, rules}
use Rattle.vax_flat.specs.declared.Cut.{Cut}
use Rattle.vax_flat.specs.declared.Cut.TheVariants as cut
use Rattle.vax_flat.specs.declared.Flow.{Flow}
use Rattle.vax_flat.specs.OverPort.{Follows}
use Rattle.vax_flat.specs.State.{State}
use Rattle.vax_undo.specs.Transaction.{present, told, traced, undone}
use Rattle.vax_cpu.specs.Tried.{LeadsBack}
use Rattle.vax_cpu.proofs.Attempts.{kept, finished, parted, undone_as}
use Rattle.vax_flat.specs.declared.Flow.TheVariants as flow
use Rattle.vax_undo.specs.Trail.{FollowsTraced}
use Rattle.vax_cpu.proofs.Trails.{came, ended, stopped}
use Rattle.vax_cpu.proofs.attempt.conclude.Goals as goal

pub returns-in-More-clause-tried : goal.returns-in-More-clause-tried
returns-in-More-clause-tried g c = λ old tree follows back.
    let mid = present g.P.Port.view c.args.txn in
    let is = c.in-Ok.is ∙ ap (λ (x : Flow). Ok x) c.in-More.is in
    parted tree old mid (record { state = _; view = _ }) (record { opcode = c.in-More.opcode; start = c.commit_part-start.result; units = c.in-More.units })
    (subst (λ w. Follows (tree old.state) old (told c.args.txn w) mid) is follows) (search rules) (search rules)
    (c.commit_part-start.ensures.start ∙ ap (λ (s : State). s.core) (subst (λ w. LeadsBack g.P.Port.view old w c.args.txn) is back))

pub returns-in-Done-clause-tried : goal.returns-in-Done-clause-tried
returns-in-Done-clause-tried g c = λ old tree follows back.
    let mid = present g.P.Port.view c.args.txn in
    let is = c.in-Ok.is ∙ ap (λ (x : Flow). Ok x) c.in-Done.is in
    kept tree old mid (record { state = _; view = _ }) c.commit.result (subst (λ w. Follows (tree old.state) old (told c.args.txn w) mid) is follows)
    (search rules) (search rules) c.commit.ensures.sent

pub returns-in-Ended-clause-tried : goal.returns-in-Ended-clause-tried
returns-in-Ended-clause-tried g c = λ old tree follows back.
    let mid = present g.P.Port.view c.args.txn in
    let is = c.in-Ok.is ∙ ap (λ (x : Flow). Ok x) c.in-Ended.is in
    finished tree old mid (record { state = _; view = _ }) c.in-Ended.ending (subst (λ w. Follows (tree old.state) old (told c.args.txn w) mid) is follows)
    c.unwind.ensures.marks
    (undone_as old (undone g.P.Port.view c.args.txn) _ _ c.unwind.ensures.state c.unwind.ensures.view (subst (λ w. LeadsBack g.P.Port.view old w c.args.txn) is back))

pub returns-in-More-clause-traces : goal.returns-in-More-clause-traces
returns-in-More-clause-traces g c = λ old tree follows.
    let mid = traced g.P.Port.view g.P.Port.trail c.args.txn in
    let is = c.in-Ok.is ∙ ap (λ (x : Flow). Ok x) c.in-More.is in (
      c.in-More.opcode,
      c.in-More.units,
      came tree old mid _ (flow.More c.in-More.opcode c.in-More.units)
          (subst (λ w. FollowsTraced (tree old.state) old (told c.args.txn w) mid) is follows) (search rules),
    )

pub returns-in-Done-clause-traces : goal.returns-in-Done-clause-traces
returns-in-Done-clause-traces g c = λ old tree follows.
    let mid = traced g.P.Port.view g.P.Port.trail c.args.txn in
    let is = c.in-Ok.is ∙ ap (λ (x : Flow). Ok x) c.in-Done.is in
    came tree old mid _ flow.Done (subst (λ w. FollowsTraced (tree old.state) old (told c.args.txn w) mid) is follows) (search rules)

pub returns-in-Ended-clause-traces : goal.returns-in-Ended-clause-traces
returns-in-Ended-clause-traces g c = λ old tree follows.
    let mid = traced g.P.Port.view g.P.Port.trail c.args.txn in
    let is = c.in-Ok.is ∙ ap (λ (x : Flow). Ok x) c.in-Ended.is in
    ended tree old mid _ c.in-Ended.ending c.args.txn.log.now.entries.items (subst (λ w. FollowsTraced (tree old.state) old (told c.args.txn w) mid) is follows) c.unwind.ensures.trail

pub returns-in-Absent-clause-traces : goal.returns-in-Absent-clause-traces
returns-in-Absent-clause-traces g c = λ old tree follows.
    let mid = traced g.P.Port.view g.P.Port.trail c.args.txn in
    let why : c.args.txn.why ≡ cut.Absent c.in-Absent.page = sym c.why-why.ensures ∙ c.in-Absent.is in
    stopped tree old mid _ (cut.Absent c.in-Absent.page) c.args.txn.log.now.entries.items
    (subst (λ (x : Cut). FollowsTraced (tree old.state) old (Err x) mid) why (subst (λ w. FollowsTraced (tree old.state) old (told c.args.txn w) mid) c.in-Err.is follows)) c.unwind-in-Err.ensures.trail

pub returns-in-Event-clause-traces : goal.returns-in-Event-clause-traces
returns-in-Event-clause-traces g c = λ old tree follows.
    let mid = traced g.P.Port.view g.P.Port.trail c.args.txn in
    let why : c.args.txn.why ≡ cut.Event c.in-Event.exception = sym c.why-why.ensures ∙ c.in-Event.is in
    stopped tree old mid _ (cut.Event c.in-Event.exception) c.args.txn.log.now.entries.items
    (subst (λ (x : Cut). FollowsTraced (tree old.state) old (Err x) mid) why (subst (λ w. FollowsTraced (tree old.state) old (told c.args.txn w) mid) c.in-Err.is follows)) c.unwind-in-Err.ensures.trail
