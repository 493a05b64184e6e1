use Rattle.vax_flat_laws.proofs.Reading.{search_whole_kept, scan_whole_kept, compare_whole_kept, match_whole_kept, search_kept, scan_kept, compare_kept, match_kept}
use Rattle.vax_flat_laws.proofs.maximal.searches_write_nothing.Goals as goal

pub returns : goal.returns
returns c = record {
  wholes = λ memory s p choice. (search_whole_kept memory choice p s, scan_whole_kept memory choice p s, compare_whole_kept memory _ _ _ _ s, match_whole_kept memory _ p s);
  parts = λ memory s p choice. (search_kept memory choice p s, scan_kept memory choice p s, compare_kept memory p s, match_kept memory p s);
}
