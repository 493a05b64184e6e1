use Rattle.std.proofs.Common.{◌≡◌, take}
use Rattle.vax_link.specs.Layout.{covered_by, sections_in}
use Rattle.vax_link.proofs.layout.covered_by.Given as goal

abbrev pub invariant-loop-piece : goal.invariant-loop-piece
invariant-loop-piece l = l.most ≡ covered_by l.name 0 (sections_in (take l.piece-index l.pieces))
