use Rattle.std.proofs.Common.{◌≡◌, ◌≤◌, take}
use Rattle.std.specs.List.{fold}
use Rattle.vax_link.specs.Layout.{aligned_for, sections_in}
use Rattle.vax_link.proofs.layout.align_of.Given as goal

abbrev pub invariant-loop-piece : goal.invariant-loop-piece
invariant-loop-piece l = record {
  align : l.align ≡ fold (aligned_for l.name) 1 (sections_in (take l.piece-index l.pieces));
  some : 1 ≤ l.align;
}
