use Rattle.std.proofs.Common.{◌≡◌, ◌<◌, ◌++◌, ℕ, length, take}
use Rattle.std.specs.Prelude.{slice_index}
use Rattle.vax_link.specs.Layout.{first_piece, pieces_of, sections_in}
use Rattle.vax_link.proofs.layout.pieces_of.Given as goal

abbrev pub invariant-loop-module : goal.invariant-loop-module
invariant-loop-module l = record {
  pieces : sections_in l.pieces.items ≡ pieces_of (take l.module-index l.modules);
  count : length l.firsts.items ≡ l.module-index;
  each : (owner : ℕ) → owner < l.module-index → slice_index l.firsts.items owner ≡ first_piece l.modules owner;
}

abbrev pub invariant-loop-section : goal.invariant-loop-section
invariant-loop-section l = sections_in l.pieces.items ≡ sections_in l.initial.pieces.items ++ take l.section-index l.section-items
