use Rattle.vax_flat_laws.proofs.Maximum.{search_left, compare_left, move_left, fill_left, escape_left}
use Rattle.vax_flat_laws.proofs.Matching.{match_left}
use Rattle.vax_flat_laws.proofs.Scanning.{scan_left}
use Rattle.vax_flat_laws.proofs.maximal.parts_are_maximal.Goals as goal

pub returns : goal.returns
returns c = record {
  search = λ equal p s memory small. search_left equal p s small memory;
  scan = λ some p s memory fit small near. scan_left some p s memory fit small near;
  compare = λ p s memory plain. compare_left p s plain memory;
  moves = λ translate p s memory plain some. move_left translate p s plain some memory;
  escape = λ p s memory plain some. escape_left p s plain some memory;
  matching = λ p s memory. match_left p s memory;
  fills = λ translate p s memory none some. fill_left translate p s none some memory;
}
