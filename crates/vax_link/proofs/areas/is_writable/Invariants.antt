use Rattle.std.proofs.Common.{◌≡◌, false, take}
use Rattle.vax_link.specs.Layout.{is_writable, sections_in}
use Rattle.vax_link.proofs.areas.is_writable.Given as goal

abbrev pub invariant-loop-piece : goal.invariant-loop-piece
invariant-loop-piece l = is_writable l.name (sections_in (take l.piece-index l.pieces)) ≡ false
