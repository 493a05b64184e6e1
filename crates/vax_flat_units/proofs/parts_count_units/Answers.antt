use Rattle.vax_flat_units.proofs.Searching.{search_right, scan_right}
use Rattle.vax_flat_units.proofs.Comparing.{compare_right}
use Rattle.vax_flat_units.proofs.Moving.{move_right}
use Rattle.vax_flat_units.proofs.Escaping.{escape_right}
use Rattle.vax_flat_units.proofs.Matching.{match_right}
use Rattle.vax_flat_units.proofs.parts_count_units.Goals as goal

pub returns : goal.returns
returns c = record {
  search = λ equal p s memory next behind full proper small. search_right equal p s memory next behind full proper small;
  scan = λ some p s memory next behind full proper is. scan_right some p s memory next behind full proper is.address is.table;
  compare = λ p s memory next behind full proper layout. compare_right p s memory next behind full proper layout;
  moves = λ translate p s memory next behind full proper is. move_right translate p s memory next behind full proper is.layout is.within;
  escape = λ p s memory next behind full proper is. escape_right p s memory next behind full proper is.layout is.source is.destination is.table is.unreserved is.within;
  matching = λ p s memory next behind full proper is. match_right p s memory next behind full proper is.layout is.within;
}
