use Rattle.std.proofs.Common.{◌≡◌, ◌++◌, length}
use Rattle.vax_asm_listing.specs.Listing.{others_left, others_lines}
use Rattle.vax_asm_listing.specs.Placings.{placing_of}
use Rattle.vax_asm_listing.proofs.lines.push_others.Given as goal

abbrev pub invariant-loop-row : goal.invariant-loop-row
invariant-loop-row l = record {
  text : l.out.items ++ others_lines (placing_of l.placing) l.number l.left ≡ l.fn.out.items ++ others_lines (placing_of l.placing) l.number l.rows;
  left : others_left l.number l.left ≡ others_left l.number l.rows;
}

abbrev pub decreases-loop-row : goal.decreases-loop-row
decreases-loop-row l = length l.left
