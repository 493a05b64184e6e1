use Rattle.std.proofs.Common.{◌≡◌, ◌≤◌, ◌+◌, ◌++◌, length}
use Rattle.vax_lines.specs.Lines.{lines}
use Rattle.vax_asm_listing.specs.Listing.{source_lines}
use Rattle.vax_asm_listing.specs.Placings.{placing_of}
use Rattle.vax_asm_listing.proofs.lines.push_source.Given as goal

abbrev pub invariant-loop-text : goal.invariant-loop-text
invariant-loop-text l = record {
  text : l.out.items ++ source_lines (placing_of l.placing) l.number (lines l.rest) l.left ≡ l.fn.out.items ++ source_lines (placing_of l.placing) 0 (lines l.source) l.rows;
  few : l.number + length l.rest ≤ length l.source;
}

abbrev pub decreases-loop-text : goal.decreases-loop-text
decreases-loop-text l = length l.rest
