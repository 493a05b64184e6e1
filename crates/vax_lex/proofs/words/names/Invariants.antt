use Rattle.std.proofs.Common.{◌≡◌, ◌≤◌, ◌++◌, length, ◌-◌, drop}
use Rattle.vax_lex.specs.Words.{names_from, names_of}
use Rattle.vax_lex.specs.Statements.{open_brackets}
use Rattle.vax_lex.specs.Views.{context_view, place_view}
use Rattle.vax_lex.proofs.words.names.Given as goal

abbrev pub invariant-loop-at : goal.invariant-loop-at
invariant-loop-at l = record {
  in_range : l.at ≤ length l.text;
  brackets : open_brackets (place_view l.context.place) ≤ l.at;
  same : l.names.items ++ names_from (context_view l.context) l.at 0 (drop l.at l.text) ≡ names_of l.text;
}

abbrev pub decreases-loop-at : goal.decreases-loop-at
decreases-loop-at l = length l.text - l.at
