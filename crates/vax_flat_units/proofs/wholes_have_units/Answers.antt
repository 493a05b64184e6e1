use Rattle.vax_flat_units.proofs.Wholes.{compare_is, match_is, scan_is, search_is}
use Rattle.vax_flat_units.proofs.Writing.{escape_is, move_is}
use Rattle.vax_flat_units.proofs.wholes_have_units.Goals as goal

pub returns : goal.returns
returns c = record {
  search = λ equal p s memory. search_is equal p s memory;
  scan = λ some p s memory. scan_is some p s memory;
  compare = λ p s memory. compare_is p s memory;
  moves = λ translate p s memory. move_is translate p s memory;
  escape = λ p s memory. escape_is p s memory;
  matching = λ p s memory. match_is p s memory;
}
