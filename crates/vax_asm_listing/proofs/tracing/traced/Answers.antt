use Rattle.std.proofs.Common.{rules, ◌≡◌, suc, map, ap, arith, Option, Ok, refl, subst}
use Rattle.vax_asm.proofs.Opening.{started_walk, walked_opened}
use Rattle.vax_asm.specs.View.{assembly_of}
use Rattle.vax_asm.specs.Walk.{names_in}
use Rattle.vax_asm_first.specs.View.{assignment_of, standing_of}
use Rattle.vax_asm_first.specs.declared.types.Origin.{Origin}
use Rattle.vax_asm_scope.specs.Kept.{scope_of}
use Rattle.vax_asm_scope.specs.Known.{known_here}
use Rattle.vax_lex.specs.Values.{Sense}
use Rattle.vax_lex.specs.declared.value.Value.{Value}
use Rattle.vax_macro.specs.Expanders.{OpensNext, rest_of}
use Rattle.vax_macro.specs.declared.expander.Line.{Line}
use Rattle.vax_macro.specs.Rest.{work}
use Rattle.vax_asm_listing.proofs.Rows.{begun, ends_next, opens_next}
use Rattle.vax_asm_listing.proofs.tracing.traced.Goals as goal

pub statements-init : goal.statements-init
statements-init c =
    let rest = rest_of c.in-Ok.expander in
    let s = standing_of c.in-Ok-new.standing in
    let assigned = ap (map assignment_of) c.new-3.ensures.items in
    record {
      walks = (suc (work rest), omega arith, started_walk c.args.dialect c.args.source.now rest s (map assignment_of c.new-3.result.items) c.in-Ok.ensures.rest c.in-Ok-new.ensures assigned);
      quiet = c.in-Ok.ensures.error;
      rows = λ met. begun c.args.dialect c.args.source.now c.new-rows.result.items rest s (map assignment_of c.new-3.result.items) c.new-rows.ensures.items c.in-Ok.ensures.rest c.in-Ok-new.ensures assigned;
    }

pub statements-preserved : goal.statements-preserved
statements-preserved c =
    let before = c.statements.expander in
    let after = c.next.new.self in
    let a = assembly_of c.statements.walk.standing c.statements.walk.assignments in
    let said = c.in-Ok-Some.said in
    let origin : Origin = record { line = said.number; place = c.lines_read.result } in
    let s = c.statements.walk.standing in
    let names : Sense = known_here s.dialect c.in-Ok-here.here (scope_of s.scope) in
    let same : names ≡ names_in a.standing = ap (λ (here : Value). known_here s.dialect here (scope_of s.scope)) c.in-Ok-here.ensures in
    let next = subst (λ (o : Option Line). OpensNext names (Ok o) before after) c.in-Ok-Some.field-0-is (c.in-Ok-Some.ensures.opens c.statements.invariant.quiet) in
    record {
      walks = search (rules, walked_opened);
      quiet = search rules;
      rows = c.in_ok-say-in-Ok-Some.ensures.rows c.args.dialect c.args.source.now (rest_of before) (rest_of after) (opens_next names before after a said origin same refl c.lines_read.ensures next) c.statements.invariant.rows;
    }

pub returns-in-Ok-None-clause-trace : goal.returns-in-Ok-None-clause-trace
returns-in-Ok-None-clause-trace c =
    let before = c.statements.expander in
    let after = c.next.new.self in
    let s = c.statements.walk.standing in
    let a = assembly_of s c.statements.walk.assignments in
    let names : Sense = known_here s.dialect c.in-Ok-here.here (scope_of s.scope) in
    let same : names ≡ names_in a.standing = ap (λ (here : Value). known_here s.dialect here (scope_of s.scope)) c.in-Ok-here.ensures in
    let next = subst (λ (o : Option Line). OpensNext names (Ok o) before after) c.in-Ok-None.field-0-is (c.in-Ok-None.ensures.opens c.statements.invariant.quiet) in
    c.end.ensures.trace c.args.dialect c.args.source.now (rest_of before) (ends_next names before after a same next) c.statements.invariant.rows
