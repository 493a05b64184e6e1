use Rattle.std.proofs.Common.{◌≡◌, ◌≤◌, take}
use Rattle.vax_link.specs.Layout.{end_behind, sections_in}
use Rattle.vax_link.proofs.layout.end_of.Given as goal

abbrev pub invariant-loop-piece : goal.invariant-loop-piece
invariant-loop-piece l = record {
  end : l.end ≡ end_behind l.name l.align 0 (sections_in (take l.piece-index l.pieces));
  few : l.end ≤ 0x1000000;
}
