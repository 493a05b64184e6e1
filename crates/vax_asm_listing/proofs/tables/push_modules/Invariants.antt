use Rattle.std.proofs.Common.{◌≡◌, ◌++◌, drop}
use Rattle.vax_asm_listing.specs.Listing.{modules_lines}
use Rattle.vax_asm_listing.specs.Placings.{parts_of}
use Rattle.vax_asm_listing.proofs.tables.push_modules.Given as goal

abbrev pub invariant-loop-part : goal.invariant-loop-part
invariant-loop-part l = record {
  text : l.out.items ++ modules_lines l.areas l.rest l.number (parts_of (drop l.part-index l.parts)) ≡ l.fn.out.items ++ modules_lines l.areas l.program.places.now 0 (parts_of l.parts);
  number : l.number ≡ l.part-index;
}
