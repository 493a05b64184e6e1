use Rattle.vax_flat.proofs.Listed.{action_takes, listed_agrees}
use Rattle.vax_flat.proofs.laws.operands_are_listed.Goals as goal

pub returns : goal.returns
returns c = record {
  listed = λ action. action_takes action;
  instruction = λ memory s row operands is privileged takes next. listed_agrees memory s is.bytes row operands is.count privileged takes next is.ahead is.is;
}
