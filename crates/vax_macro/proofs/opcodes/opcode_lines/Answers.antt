use Rattle.std.proofs.Common.{◌+◌, ◌∷◌, ◌++◌, [], ℕ, List, drop, ap, ◌∙◌, arith}
use Rattle.std.proofs.lemmas.List.{drop_all, drop_more}
use Rattle.vax_macro.specs.Opcodes.{operand_lines}
use Rattle.vax_macro.specs.TemplateViews.{texts_view}
use Rattle.vax_macro.proofs.Operands.{last_line, one_line}
use Rattle.vax_macro.proofs.opcodes.opcode_lines.Goals as goal

pub loop-place-preserved : goal.loop-place-preserved
loop-place-preserved c =
    let at = c.loop-place in
    let rest = operand_lines (at.place + 1 + 1) (drop (at.place + 1) c.args.operands.now) in
    record {
      same =
          ap (λ (l : List (List ℕ)). l ++ rest) c.in_ok-add_line-2.ensures.value
          ∙ ap (λ (t : List ℕ). (texts_view at.lines ++ t ∷ []) ++ rest) c.in_ok-line.ensures.value
          ∙ one_line (texts_view at.lines) (at.place + 1) _ (drop at.place c.args.operands.now) _ _ (drop_more c.args.operands.now at.place _ c.loop-place-test.true) at.invariant.same;
      short = c.in_ok-add_line-2.ensures.bound;
    }

pub returns-clause-value : goal.returns-clause-value
returns-clause-value c =
    let at = c.loop-place in
    last_line (texts_view at.lines) (at.place + 1) (drop at.place c.args.operands.now) _ (drop_all at.place c.args.operands.now (omega (arith, c.loop-place-test.false))) at.invariant.same
