use Rattle.vax_flat.proofs.Specifiers.{operand_agrees}
use Rattle.vax_flat.proofs.Sequences.{operands_agree, instruction_agrees}
use Rattle.vax_flat.proofs.laws.grammar_agrees.Goals as goal

pub returns : goal.returns
returns c = record {
  operand = λ kind memory s reading is next. operand_agrees kind memory s next is.bytes is.ahead reading is.reads;
  operands = λ kinds memory s operands is next. operands_agree kinds memory s is.bytes next is.ahead operands is.reads;
  instruction = λ memory s row operands is next. instruction_agrees memory s is.bytes row operands is.count next is.ahead is.is;
}
