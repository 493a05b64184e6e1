use Rattle.std.proofs.Common.{◌≡◌, ℕ, suc, arith, sym, ap, subst, ◌∙◌}
use Rattle.std.specs.Prelude.{Ok, Err, None}
use Rattle.vax_asm.specs.Walk.{at}
use Rattle.vax_asm_check.proofs.Surveying.{all_found, goes_next, if_ok, started_survey, survey_goes}
use Rattle.vax_asm_check.specs.Restating.{resumed}
use Rattle.vax_asm_check.specs.View.{left_of}
use Rattle.vax_asm_faults.specs.Survey.{Onward, stated, with_faults}
use Rattle.vax_asm_scope.specs.Kept.{scope_of}
use Rattle.vax_asm_scope.specs.Known.{known_here}
use Rattle.vax_lex.specs.declared.value.Value.{Value}
use Rattle.vax_macro.specs.Expanders.{Opens, rest_of, statement_of}
use Rattle.vax_macro.specs.Expansion.{AtEnd, opened}
use Rattle.vax_macro.specs.Rest.{work}
use Rattle.vax_asm_check.proofs.walk.faults.Goals as goal

pub statements-init : goal.statements-init
statements-init c =
    let rest = rest_of c.in_ok-expander.expander in
    let s = c.in_ok-survey.survey in
    let is = c.in_ok-survey.ensures in
    record {
      goes = (suc (work rest), omega arith, started_survey c.args.dialect c.args.source.now rest (left_of s.left) s.ended s.faults.items c.in_ok-expander.ensures.rest is.left is.ended is.faults);
      kept = is.kept;
      quiet = c.in_ok-expander.ensures.error;
    }

pub statements-preserved : goal.statements-preserved
statements-preserved c =
    let inv = c.statements.invariant in
    let left = inv.goes.0 in
    let rest = rest_of c.statements.expander in
    let after = rest_of c.next.new.self in
    let old = c.statements.survey in
    let new = c.state.new.self in
    let said = c.in-Ok-Some.said in
    let names = known_here old.left.standing.dialect c.in_ok-here.here (scope_of old.left.standing.scope) in
    let same = ap (λ (v : Value). opened left (known_here old.left.standing.dialect v (scope_of old.left.standing.scope)) rest) (sym c.in_ok-here.ensures) in
    let opens = subst (λ o. Opens (Ok o) c.next.new.self (opened left names rest)) c.in-Ok-Some.field-0-is (c.in-Ok-Some.ensures.opens inv.quiet left inv.goes.1) in
    let does = c.in_ok-state-in-Ok-Some.ensures in
    let goes = subst (λ (p : ℕ). (next : Onward) → with_faults old.faults.items (stated (at said.number p) said.text.items (left_of old.left) old.ended next) ≡ with_faults new.faults.items (next (left_of new.left) new.ended)) c.lines_read.ensures does.goes in
    record {
      goes = (opens.0, opens.1, goes_next c.args.dialect c.args.source.now left opens.0 rest after (left_of old.left) (left_of new.left) old.ended new.ended old.faults.items new.faults.items (statement_of said) inv.goes.2 (same ∙ opens.2) goes);
      kept = does.kept;
      quiet = c.in-Ok-Some.ensures.none;
    }

pub returns-in-Ok-None : goal.returns-in-Ok-None
returns-in-Ok-None c =
    let inv = c.statements.invariant in
    let left = inv.goes.0 in
    let rest = rest_of c.statements.expander in
    let old = c.statements.survey in
    let names = known_here old.left.standing.dialect c.in_ok-here.here (scope_of old.left.standing.scope) in
    let same = ap (λ (v : Value). opened left (known_here old.left.standing.dialect v (scope_of old.left.standing.scope)) rest) (sym c.in_ok-here.ensures) in
    let opens = subst (λ o. Opens (Ok o) c.next.new.self (opened left names rest)) c.in-Ok-None.field-0-is (c.in-Ok-None.ensures.opens inv.quiet left inv.goes.1) in
    let s = with_faults old.faults.items (resumed (AtEnd None) (left_of old.left) old.ended) in
    let goes = survey_goes c.args.dialect c.args.source.now left rest (left_of old.left) old.ended old.faults.items (AtEnd None) inv.goes.2 (same ∙ opens) in
    if_ok c.end.result (λ v e. all_found c.args.dialect c.args.source.now v.items s e goes) c.end.ensures

pub returns-in-Err-Fault : goal.returns-in-Err-Fault
returns-in-Err-Fault c =
    let inv = c.statements.invariant in
    let left = inv.goes.0 in
    let rest = rest_of c.statements.expander in
    let old = c.statements.survey in
    let names = known_here old.left.standing.dialect c.in_ok-here.here (scope_of old.left.standing.scope) in
    let same = ap (λ (v : Value). opened left (known_here old.left.standing.dialect v (scope_of old.left.standing.scope)) rest) (sym c.in_ok-here.ensures) in
    let o = opened left names rest in
    let opens = subst (λ e. Opens (Err e) c.next.new.self o) c.in-Err-Fault.field-0-is (c.in-Err-Fault.ensures.opens inv.quiet left inv.goes.1) in
    let s = with_faults old.faults.items (resumed o (left_of old.left) old.ended) in
    let goes = survey_goes c.args.dialect c.args.source.now left rest (left_of old.left) old.ended old.faults.items o inv.goes.2 same in
    if_ok c.stop.result (λ v e. all_found c.args.dialect c.args.source.now v.items s e goes) (c.stop.ensures o opens)
