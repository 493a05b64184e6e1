use Rattle.std.proofs.Common.{◌+◌, ◌-◌, ◌∙◌, ap, sym, refl, arith}
use Rattle.vax_undo.specs.Trail.{over_trail}
use Rattle.vax_flat.specs.StringMatch.{match_on}
use Rattle.vax_undo.specs.Transaction.{traced}
use Rattle.vax_undo.proofs.Left.{kept_through}
use Rattle.vax_x_str.proofs.MatchUnits.{keeps_all, match_step, none_left, none_near, stopped}
use Rattle.vax_x_str.proofs.matching.match_within.Goals as goal
use Rattle.vax_x_str.proofs.matching.match_within.Goals.{then-loop-units-test+else-has_unit, else-loop-units-test}

pub loop-units-init : goal.loop-units-init
loop-units-init g c = record {
  few = omega arith;
  within = c.requires.done;
  follows = λ next. refl;
  keeps = keeps_all g.P.Port.view g.P.Port.since c.args.txn.now;
}

pub returns-in_err-rest-clause-exact : goal.returns-in_err-rest-clause-exact
returns-in_err-rest-clause-exact g c = λ next.
    let p = traced g.P.Port.view g.P.Port.trail c.loop-units.txn in
    let n = c.loop-units.units in
    c.loop-units.invariant.follows next
    ∙ ap (λ tree. over_trail tree p.view p.trail) (match_step n c.args.first c.args.second c.loop-units.rest p.state next (omega arith) (cc))
    ∙ c.in_err-rest.ensures.exact (λ q t. match_on (512 - (n + 1)) (n + 1) c.args.first c.args.second q t next)
    ∙ sym (stopped c.compare_one.new.txn c.from_residual.result _ _ _ c.from_residual.ensures.0)

pub loop-units-preserved : goal.loop-units-preserved
loop-units-preserved g c =
    let p = traced g.P.Port.view g.P.Port.trail c.loop-units.txn in
    let n = c.loop-units.units in
    record {
      few = omega arith;
      within = c.in_ok-rest.ensures.done;
      follows = λ next.
          c.loop-units.invariant.follows next
          ∙ ap (λ tree. over_trail tree p.view p.trail) (match_step n c.args.first c.args.second c.loop-units.rest p.state next (omega arith) (cc))
          ∙ c.in_ok-rest.ensures.exact (λ q t. match_on (512 - (n + 1)) (n + 1) c.args.first c.args.second q t next);
      keeps = kept_through g.P.Port.view g.P.Port.since 0 0 _ c.loop-units.txn _ c.loop-units.invariant.keeps c.in_ok-rest.ensures.keeps;
    }

pub returns-clause-exact : goal.returns-clause-exact
returns-clause-exact g c = λ next.
    let p = traced g.P.Port.view g.P.Port.trail c.loop-units.txn in
    let n = c.loop-units.units in
    c.loop-units.invariant.follows next
    ∙ ap (λ tree. over_trail tree p.view p.trail) (elim c.loop-units-test.branch [
      | then-loop-units-test+else-has_unit w ↦ none_near n c.args.first c.args.second c.loop-units.rest p.state next (cc)
      | else-loop-units-test w ↦ none_left n c.args.first c.args.second c.loop-units.rest p.state next (omega arith)
    ])
    ∙ c.end_match.ensures.exact next
