use Rattle.std.proofs.Common.{◌≡◌, ◌≤◌, length, take}
use Rattle.vax_link.specs.Layout.{names_in, names_of, sections_in}
use Rattle.vax_link.proofs.layout.names_of.Given as goal

abbrev pub invariant-loop-piece : goal.invariant-loop-piece
invariant-loop-piece l = record {
  named : names_in l.names.items ≡ names_of (sections_in (take l.piece-index l.pieces));
  few : length l.names.items ≤ 64;
}
