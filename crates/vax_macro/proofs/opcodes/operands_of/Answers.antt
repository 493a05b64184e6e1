use Rattle.std.proofs.Common.{◌≡◌, ◌+◌, ◌∷◌, ◌++◌, [], Some, List, map, drop, ap, sym, ◌∙◌, arith}
use Rattle.std.specs.Prelude.{None}
use Rattle.std.proofs.lemmas.Grind.{common_steps}
use Rattle.std.proofs.lemmas.List.{drop_all, drop_more}
use Rattle.vax_macro.specs.ArgumentViews.{argument_view}
use Rattle.vax_macro.specs.Opcodes.{operand_of, operands_of}
use Rattle.vax_macro.specs.declared.opcodes.Operand.{Operand}
use Rattle.vax_macro.proofs.Operands.{behind, last_operand, no_operand, one_operand}
use Rattle.vax_macro.proofs.opcodes.operands_of.Goals as goal

pub loop-descriptor-preserved : goal.loop-descriptor-preserved
loop-descriptor-preserved c =
    let at = c.loop-descriptor in
    let item = c.descriptor-item.result in
    let steps : drop at.descriptor-index c.args.descriptors.now ≡ item ∷ drop (at.descriptor-index + 1) c.args.descriptors.now =
    drop_more c.args.descriptors.now at.descriptor-index item c.loop-descriptor-test.true ∙ ap (λ d. d ∷ drop (at.descriptor-index + 1) c.args.descriptors.now) (sym c.descriptor-item.is) in
    let pushed : c.push.new.self.items ≡ at.operands.items ++ c.in-Some.operand ∷ [] = grind (arith, common_steps) in
    let said : operand_of c.text_of.result.now ≡ Some c.in-Some.operand = grind (arith, common_steps) in
    ap (λ (l : List Operand). behind l (operands_of (map argument_view (drop (at.descriptor-index + 1) c.args.descriptors.now)))) pushed
    ∙ one_operand at.operands.items c.in-Some.operand (argument_view item) _ _ _ (ap (map argument_view) steps) (ap operand_of (sym c.text_of.ensures) ∙ said) at.invariant

pub returns-in_default : goal.returns-in_default
returns-in_default c =
    let at = c.loop-descriptor in
    let item = c.descriptor-item.result in
    let steps : drop at.descriptor-index c.args.descriptors.now ≡ item ∷ drop (at.descriptor-index + 1) c.args.descriptors.now =
    drop_more c.args.descriptors.now at.descriptor-index item c.loop-descriptor-test.true ∙ ap (λ d. d ∷ drop (at.descriptor-index + 1) c.args.descriptors.now) (sym c.descriptor-item.is) in
    let none : operand_of c.text_of.result.now ≡ None = grind (arith, common_steps) in
    no_operand at.operands.items (argument_view item) _ _ _ (ap (map argument_view) steps) (ap operand_of (sym c.text_of.ensures) ∙ none) at.invariant

pub returns : goal.returns
returns c =
    let at = c.loop-descriptor in
    last_operand at.operands.items _ _ (ap (map argument_view) (drop_all at.descriptor-index c.args.descriptors.now (omega (arith, c.loop-descriptor-test.false)))) at.invariant
