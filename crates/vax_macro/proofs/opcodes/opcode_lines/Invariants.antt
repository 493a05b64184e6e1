use Rattle.std.proofs.Common.{◌≡◌, ◌≤◌, ◌+◌, ◌++◌, drop, length}
use Rattle.std.specs.Prelude.{All}
use Rattle.vax_macro.specs.Opcodes.{opcode_lines, operand_lines}
use Rattle.vax_macro.specs.TemplateViews.{texts_view}
use Rattle.vax_macro.proofs.opcodes.opcode_lines.Given as goal

abbrev pub invariant-loop-place : goal.invariant-loop-place
invariant-loop-place l = record {
  same : texts_view l.lines ++ operand_lines (l.place + 1) (drop l.place l.operands) ≡ opcode_lines l.number l.operands;
  short : All (λ t. length t.items ≤ 1024) l.lines.items;
}
