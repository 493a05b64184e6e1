use Rattle.vax_flat.proofs.Sequences.{good_operand}
use Rattle.vax_flat.proofs.Fronts.{stays_operand, stays_operands, some_operand}
use Rattle.vax_flat.proofs.laws.grammar_reads.Goals as goal

pub returns : goal.returns
returns c = record {
  front = stays_operand;
  fronts = stays_operands;
  within = λ kind bytes specifier count read. (good_operand kind bytes specifier count read).within;
  enough = some_operand;
}
