use Rattle.vax_flat.proofs.Marks.{marks_are}
use Rattle.vax_flat.proofs.Standing.{standing}
use Rattle.vax_flat.proofs.laws.arrival_agrees.Goals as goal

pub returns : goal.returns
returns c = record {
  arrival = λ tree view memory st. standing tree view memory st;
  marks = λ tree view memory st. marks_are tree view memory st;
}
