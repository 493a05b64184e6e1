use Rattle.vax_flat.proofs.Joined.{first_missing-append}
use Rattle.vax_flat.proofs.Marks.{marked_by-append}
use Rattle.vax_flat.proofs.laws.joined_ranges.Goals as goal

pub returns : goal.returns
returns c = record {
  first = λ resident first second. first_missing-append resident first second;
  marks = λ resident marked first second. marked_by-append resident marked first second;
}
