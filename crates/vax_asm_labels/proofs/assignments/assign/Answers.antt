use Rattle.std.proofs.Common.{◌≡◌, Option, Result, Err, subst, sym, ap, ◌∙◌}
use Rattle.vax_lex.specs.Grammar.{symbols_of}
use Rattle.vax_macro.specs.declared.error.FaultKind.{FaultKind}
use Rattle.vax_asm_labels.specs.Naming.{assigned_by, fault_of}
use Rattle.vax_asm_first.specs.Progress.{after_change, done, done_by, joined}
use Rattle.vax_asm_first.specs.Standing.{Standing, Told, told, with_scope}
use Rattle.vax_asm_first.specs.View.{site_seen, standing_of, told_of, Stands}
use Rattle.vax_asm_first.specs.declared.types.Refused.{Refused}
use Rattle.vax_asm_scope.specs.Kept.{scope_of}
use Rattle.vax_asm_scope.specs.Scope.{assigned, entry}
use Rattle.vax_asm_labels.proofs.Ending.{part_fails, scope_left}
use Rattle.vax_asm_labels.proofs.assignments.assign.Goals as goal

pub returns-in-Err-Fault-clause-result : goal.returns-in-Err-Fault-clause-result
returns-in-Err-Fault-clause-result c =
    let site = site_seen c.args.site in
    let name = c.args.name.now in
    let kind = c.in-Err-Fault.kind in
    let before = standing_of c.args.standing.now in
    let after = standing_of c.define.new.standing in
    let symbols = symbols_of site.line c.args.tokens.now in
    let is_told : told_of c.in_ok-told.told (scope_of c.tell.new.self.scope) ≡ told site.dialect site.here symbols (entry name before.scope).scope =
    c.in_ok-told.ensures.told ∙ ap (told site.dialect site.here symbols) c.in_ok-appear.ensures.scope in
    let ends : Told → Standing → Result Standing FaultKind = λ t s. assigned_by c.args.global name s (assigned name t.written t.scope) in
    let t = told site.dialect site.here symbols (entry name before.scope).scope in
    let refused : Refused → Type 0 = λ e. Stands (Err e) after (ends (told_of c.in_ok-told.told (scope_of c.tell.new.self.scope)) (standing_of c.tell.new.self)) in
    let fails : ends t before ≡ Err kind =
    sym (scope_left c.args.global name (scope_of c.tell.new.self.scope) before (assigned name t.written t.scope))
    ∙ ap (λ (x : Told). ends x (with_scope (scope_of c.tell.new.self.scope) before)) (sym is_told)
    ∙ ap (ends (told_of c.in_ok-told.told (scope_of c.tell.new.self.scope))) (sym c.in_ok-told.ensures.same)
    ∙ subst refused c.in-Err-Fault.field-0-is c.in-Err-Fault.ensures.stands in
    let fault : c.fault_of-fault.result ≡ fault_of t.settled = c.fault_of-fault.ensures ∙ ap (λ (x : Told). fault_of x.settled) is_told in
    ap (λ (o : Option FaultKind). done_by o after) c.lowest.ensures
    ∙ part_fails c.fault_of-fault.result kind before after (ends t before) fails
    ∙ ap (λ (o : Option FaultKind). done (joined o (after_change before (ends t before)))) fault
