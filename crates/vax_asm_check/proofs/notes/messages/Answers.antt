use Rattle.std.proofs.Common.{◌≡◌, ◌++◌, ℕ, suc, true, length, map, rules, arith, sym, ap, subst, ◌∙◌}
use Rattle.std.specs.Prelude.{Ok, Err}
use Rattle.vax_asm.specs.Walk.{at}
use Rattle.vax_asm_check.proofs.Telling.{all_told, enough_told, fault_ends, goes_next, nothing_ends, started_messages}
use Rattle.vax_asm_check.specs.Faultless.{Following, faultless, said_at, stated}
use Rattle.vax_asm_check.specs.Messages.{messages, messages_in}
use Rattle.vax_asm_check.specs.View.{left_of, message_seen}
use Rattle.vax_asm_scope.specs.Kept.{scope_of}
use Rattle.vax_asm_scope.specs.Known.{known_here}
use Rattle.vax_dialect.specs.Differences.{has_further_directives}
use Rattle.vax_lex.specs.declared.value.Value.{Value}
use Rattle.vax_macro.specs.Expanders.{Opens, rest_of, statement_of, unclosed_of}
use Rattle.vax_macro.specs.Expansion.{opened}
use Rattle.vax_macro.specs.Rest.{work}
use Rattle.vax_asm_check.proofs.notes.messages.Goals as goal

pub statements-init : goal.statements-init
statements-init c =
    let rest = rest_of c.in_ok-expander.expander in
    let s = c.in_ok-survey.survey in
    let is = c.in_ok-survey.ensures in
    let none : c.before.new-all.result.items ≡ _ = c.before.new-all.ensures.items in
    let further : has_further_directives c.args.dialect ≡ true = search rules in
    record {
      goes = (suc (work rest), omega arith, started_messages c.args.dialect c.args.source.now _ rest (left_of s.left) s.ended further none c.in_ok-expander.ensures.rest is.left is.ended);
      few = let e = ap length none in omega (arith, e);
      kept = is.kept;
      quiet = c.in_ok-expander.ensures.error;
    }

pub statements-preserved : goal.statements-preserved
statements-preserved c =
    let inv = c.statements.invariant in
    let left = inv.goes.0 in
    let rest = rest_of c.statements.expander in
    let after = rest_of c.next.new.self in
    let old = c.statements.survey in
    let new = c.state.new.survey in
    let all = c.statements.all.items in
    let more = c.state.new.all.items in
    let said = c.in-Ok-Some.said in
    let names = known_here old.left.standing.dialect c.in_ok-here.here (scope_of old.left.standing.scope) in
    let same = ap (λ (v : Value). opened left (known_here old.left.standing.dialect v (scope_of old.left.standing.scope)) rest) (sym c.in_ok-here.ensures) in
    let opens = subst (λ o. Opens (Ok o) c.next.new.self (opened left names rest)) c.in-Ok-Some.field-0-is (c.in-Ok-Some.ensures.opens inv.quiet left inv.goes.1) in
    let does = c.in_ok-state-in-Ok-Some.ensures in
    let tells = subst (λ (p : ℕ). (next : Following) → map message_seen all ++ messages_in c.args.dialect (stated (said_at (at said.number p) said.text.items) (left_of old.left) old.ended next) ≡ map message_seen more ++ messages_in c.args.dialect (next (left_of new.left) new.ended)) c.lines_read.ensures does.tells in
    record {
      goes = (opens.0, opens.1, goes_next c.args.dialect (messages c.args.dialect c.args.source.now) all more left opens.0 rest after (left_of old.left) (left_of new.left) old.ended new.ended (statement_of said) inv.goes.2 (same ∙ opens.2) tells);
      few = search rules;
      kept = does.kept;
      quiet = c.in-Ok-Some.ensures.none;
    }

pub returns-in-Ok-None : goal.returns-in-Ok-None
returns-in-Ok-None c =
    let inv = c.statements.invariant in
    let left = inv.goes.0 in
    let rest = rest_of c.statements.expander in
    let old = c.statements.survey in
    let names = known_here old.left.standing.dialect c.in_ok-here.here (scope_of old.left.standing.scope) in
    let same = ap (λ (v : Value). opened left (known_here old.left.standing.dialect v (scope_of old.left.standing.scope)) rest) (sym c.in_ok-here.ensures) in
    let opens = subst (λ o. Opens (Ok o) c.next.new.self (opened left names rest)) c.in-Ok-None.field-0-is (c.in-Ok-None.ensures.opens inv.quiet left inv.goes.1) in
    all_told c.args.dialect (messages c.args.dialect c.args.source.now) c.statements.all.items left rest (left_of old.left) old.ended inv.few inv.goes.2 (nothing_ends _ (same ∙ opens))

pub returns-in-Err-Fault : goal.returns-in-Err-Fault
returns-in-Err-Fault c =
    let inv = c.statements.invariant in
    let left = inv.goes.0 in
    let rest = rest_of c.statements.expander in
    let old = c.statements.survey in
    let names = known_here old.left.standing.dialect c.in_ok-here.here (scope_of old.left.standing.scope) in
    let same = ap (λ (v : Value). opened left (known_here old.left.standing.dialect v (scope_of old.left.standing.scope)) rest) (sym c.in_ok-here.ensures) in
    let o = opened left names rest in
    let opens = subst (λ e. Opens (Err e) c.next.new.self o) c.in-Err-Fault.field-0-is (c.in-Err-Fault.ensures.opens inv.quiet left inv.goes.1) in
    all_told c.args.dialect (messages c.args.dialect c.args.source.now) c.statements.all.items left rest (left_of old.left) old.ended inv.few inv.goes.2 (fault_ends (unclosed_of c.next.new.self) c.next.new.self.read c.in-Err-Fault.field-0-0 c.in-Err-Fault.field-0-1 _ _ same opens)

pub returns-then-len-ge-MOST : goal.returns-then-len-ge-MOST
returns-then-len-ge-MOST c =
    let inv = c.statements.invariant in
    let s = c.statements.survey in
    let more = messages_in c.args.dialect (faultless inv.goes.0 (rest_of c.statements.expander) (left_of s.left) s.ended) in
    enough_told (messages c.args.dialect c.args.source.now) more c.statements.all.items inv.few (omega arith) inv.goes.2
