use Rattle.std.proofs.Common.{◌+◌, ◌∙◌, ap, sym, arith}
use Rattle.vax_flat.specs.Call.{restored}
use Rattle.vax_undo.specs.Trail.{over_trail}
use Rattle.vax_undo.specs.Transaction.{traced}
use Rattle.vax_x_call.proofs.StackLaws.{rest, named_all, rest_step, rest_none, stopped, keeps_more, keeps_all}
use Rattle.vax_x_call.proofs.stack.restore.Goals as goal

pub loop-n-init : goal.loop-n-init
loop-n-init g c =
    let p = traced g.P.Port.view g.P.Port.trail c.args.txn.now in
    record {
      few = omega arith;
      within = c.end_of_named-end.ensures.within;
      follows = λ next. ap (λ ns. over_trail (restored ns c.args.from p.state next) p.view p.trail) (sym c.end_of_named-end.ensures.named ∙ named_all c.args.mask c.end_of_named-end.result);
      keeps = keeps_all g.P.Port.view g.P.Port.since _ _;
    }

pub returns-in_err-at-clause-exact : goal.returns-in_err-at-clause-exact
returns-in_err-at-clause-exact g c = λ next.
    let p = traced g.P.Port.view g.P.Port.trail c.loop-n.txn in
    c.loop-n.invariant.follows next
    ∙ ap (λ tree. over_trail tree p.view p.trail) (rest_step c.args.mask c.loop-n.n c.end_of_named-end.result c.loop-n.at p.state next (omega arith))
    ∙ c.in_err-at.ensures.exact (λ addr t. restored (rest c.args.mask (c.loop-n.n + 1) c.end_of_named-end.result) addr t next)
    ∙ sym (stopped c.restore_if.new.txn c.from_residual.result _ _ _ c.from_residual.ensures.0)

pub returns-in_err-at-clause-keeps : goal.returns-in_err-at-clause-keeps
returns-in_err-at-clause-keeps g c =
    keeps_more g.P.Port.view g.P.Port.since c.loop-n.n 1 c.args.count _ c.loop-n.txn _ (omega arith) c.loop-n.invariant.keeps c.in_err-at.ensures.keeps

pub loop-n-preserved : goal.loop-n-preserved
loop-n-preserved g c =
    let p = traced g.P.Port.view g.P.Port.trail c.loop-n.txn in
    record {
      few = omega arith;
      within = c.loop-n.invariant.within;
      follows = λ next.
          c.loop-n.invariant.follows next
          ∙ ap (λ tree. over_trail tree p.view p.trail) (rest_step c.args.mask c.loop-n.n c.end_of_named-end.result c.loop-n.at p.state next (omega arith))
          ∙ c.in_ok-at.ensures.exact (λ addr t. restored (rest c.args.mask (c.loop-n.n + 1) c.end_of_named-end.result) addr t next);
      keeps = keeps_more g.P.Port.view g.P.Port.since c.loop-n.n 1 _ _ c.loop-n.txn _ (omega arith) c.loop-n.invariant.keeps c.in_ok-at.ensures.keeps;
    }

pub returns-clause-exact : goal.returns-clause-exact
returns-clause-exact g c = λ next.
    let p = traced g.P.Port.view g.P.Port.trail c.loop-n.txn in
    c.loop-n.invariant.follows next ∙ ap (λ tree. over_trail tree p.view p.trail) (rest_none c.args.mask c.loop-n.n c.end_of_named-end.result c.loop-n.at p.state next (omega arith))

pub returns-clause-keeps : goal.returns-clause-keeps
returns-clause-keeps g c =
    keeps_more g.P.Port.view g.P.Port.since c.loop-n.n 0 c.args.count _ c.loop-n.txn _ (let few = c.loop-n.invariant.few in omega arith) c.loop-n.invariant.keeps (keeps_all g.P.Port.view g.P.Port.since 0 c.loop-n.txn)
