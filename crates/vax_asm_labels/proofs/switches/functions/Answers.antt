use Rattle.std.proofs.Common.{◌≡◌, List, Option, Ok, Err, map, ap, subst, sym, ◌∙◌}
use Rattle.std.specs.Borrow.{Bor}
use Rattle.vax_lex.specs.declared.token.Token.{Token}
use Rattle.vax_asm_statement.specs.Parts.{parts}
use Rattle.vax_macro.specs.declared.error.FaultKind.{FaultKind}
use Rattle.vax_asm_first.specs.Standing.{Standing}
use Rattle.vax_asm_first.specs.View.{Stands, standing_of}
use Rattle.vax_asm_first.specs.declared.types.Refused.{Refused}
use Rattle.vax_asm_labels.proofs.Parts.{part_at}
use Rattle.vax_asm_labels.proofs.Switching.{fault_switched, some_operands}
use Rattle.vax_asm_labels.specs.Functions.{all_switched, functions_stated, switched}
use Rattle.vax_asm_labels.specs.declared.switches.Function.{Function}
use Rattle.vax_asm_labels.proofs.switches.functions.Goals as goal

pub function_at-requires : goal.function_at-requires
function_at-requires c =
    let now : Bor (List Token) → List Token = λ s. s.now in
    part_at c.args.line.now (parts c.args.operands.now) c.deref-part-items.result.now c.loop-part.part-index _
    (ap (map now) c.deref-part-items.ensures.value ∙ c.in-Ok.ensures.parts) (c.in-Ok.ensures.within c.args.line.now c.requires.tokens) c.loop-part-test.true

pub returns-in-Err-Fault-clause-stands : goal.returns-in-Err-Fault-clause-stands
unfolding functions_stated
returns-in-Err-Fault-clause-stands c =
    let on = c.args.on in
    let line = c.args.line.now in
    let before : Standing = standing_of c.loop-part.standing in
    let kind = c.in-Err-Fault.kind in
    let refused : Refused → Type 0 = λ e. Stands (Err e) (standing_of c.switch.new.standing) (switched on c.function_at.result before) in
    let fails : switched on c.function_at.result before ≡ Err kind = subst refused c.in-Err-Fault.field-0-is c.in-Err-Fault.ensures.stands in
    let at_fault = ap (λ (f : Option Function). switched on f before) (sym c.function_at.ensures) ∙ fails in
    let all : all_switched on line (parts c.args.operands.now) (Ok (standing_of c.args.standing.now)) ≡ Err kind =
    fault_switched on line before kind _ c.deref-part-items.result.now c.loop-part.part-index _ c.loop-part-test.true at_fault c.loop-part.invariant.switched in
    subst (λ (k : FaultKind). functions_stated on line c.args.operands.now (standing_of c.args.standing.now) ≡ Err k) (sym c.in-Err-Fault.kind-is)
    (some_operands c.args.operands.now _ _ (sym c.if-is_empty.ensures) all)
