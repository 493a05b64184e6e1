use Rattle.std.proofs.Common.{ℕ, List, false, ap, ◌∙◌}
use Rattle.vax_macro.specs.Opcodes.{operand_name}
use Rattle.vax_macro.specs.TemplateViews.{formals_view}
use Rattle.vax_macro.specs.Templates.{Formal, with_formal}
use Rattle.vax_macro.proofs.opcodes.add_operand.Goals as goal

pub returns : goal.returns
returns c =
    let before = formals_view c.args.formals.now in
    c.in_ok-add.ensures
    ∙ ap (λ (name : List ℕ). let f : Formal = record { name = name; default = c.new.result.items; makes_label = false } in with_formal before f) c.in_ok-name.ensures.value
    ∙ ap (λ (default : List ℕ). let f : Formal = record { name = operand_name c.args.number; default = default; makes_label = false } in with_formal before f) c.new.ensures.items
