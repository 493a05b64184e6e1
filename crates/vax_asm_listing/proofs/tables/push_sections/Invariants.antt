use Rattle.std.proofs.Common.{◌≡◌, ◌++◌, drop}
use Rattle.vax_asm_listing.specs.Listing.{section_lines}
use Rattle.vax_asm_listing.specs.Placings.{placing_of}
use Rattle.vax_asm_listing.proofs.tables.push_sections.Given as goal

abbrev pub invariant-loop-number : goal.invariant-loop-number
invariant-loop-number l = l.out.items ++ section_lines (placing_of l.placing) l.rows l.number (drop l.number l.sections) ≡ l.fn.out.items ++ section_lines (placing_of l.placing) l.rows 0 l.sections
