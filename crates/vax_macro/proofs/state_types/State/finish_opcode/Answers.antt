use Rattle.std.proofs.Common.{◌≡◌, ℕ, List, length, ap, ◌∙◌, arith}
use Rattle.vax_macro.specs.Opcodes.{opcode_lines, operand_formals}
use Rattle.vax_macro.specs.Directives.{with_macro}
use Rattle.vax_macro.specs.Templates.{Formals, template}
use Rattle.vax_macro.specs.TemplateViews.{formals_view, texts_view}
use Rattle.vax_macro.specs.View.{rest_in}
use Rattle.vax_macro.proofs.state_types.State.finish_opcode.Goals as goal

pub returns : goal.returns
returns c = λ read.
    let before = rest_in read c.args.self.now in
    let opcode = c.args.opcode in
    let count : c.len.result ≡ length opcode.operands.items = omega (arith, c.len.ensures, opcode.operands.ok) in
    let formals : formals_view c.in_ok-formals.formals ≡ operand_formals (length opcode.operands.items) = c.in_ok-formals.ensures ∙ ap operand_formals count in
    let lines : texts_view c.in_ok-lines.lines ≡ opcode_lines opcode.number opcode.operands.items =
    c.in_ok-lines.ensures.value ∙ ap (opcode_lines opcode.number) c.deref.ensures.value in
    c.in_ok-finish_macro.ensures read
    ∙ ap (λ (fs : Formals). with_macro opcode.name.items (template fs (texts_view c.in_ok-lines.lines)) before) formals
    ∙ ap (λ (texts : List (List ℕ)). with_macro opcode.name.items (template (operand_formals (length opcode.operands.items)) texts) before) lines
