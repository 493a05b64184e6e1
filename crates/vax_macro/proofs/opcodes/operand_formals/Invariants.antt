use Rattle.std.proofs.Common.{◌≡◌}
use Rattle.vax_macro.specs.Opcodes.{operand_formals}
use Rattle.vax_macro.specs.TemplateViews.{formals_view}
use Rattle.vax_macro.proofs.opcodes.operand_formals.Given as goal

abbrev pub invariant-loop-place : goal.invariant-loop-place
invariant-loop-place l = formals_view l.formals ≡ operand_formals l.place
