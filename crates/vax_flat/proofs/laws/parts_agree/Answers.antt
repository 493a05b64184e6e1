use Rattle.vax_flat.proofs.Parts.{parts_less, turns_agree}
use Rattle.vax_flat.proofs.laws.parts_agree.Goals as goal

pub returns : goal.returns
returns c = record {
  step = λ m place next running by is. turns_agree m place next running by is;
  less = λ m p next by is. parts_less m p next by is;
}
