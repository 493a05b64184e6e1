use Rattle.std.proofs.Common.{◌≡◌, ◌++◌, map, drop}
use Rattle.vax_asm_second.specs.Laid.{laid}
use Rattle.vax_asm_second.specs.View.{known_of}
use Rattle.vax_asm_sections.specs.View.{section_of}
use Rattle.vax_asm_first.specs.View.{section_seen}
use Rattle.vax_asm_second.proofs.lists.Listing.list_sections.Given as goal

abbrev pub invariant-loop-i : goal.invariant-loop-i
invariant-loop-i l =
    let k = known_of l.known in
    l.self.faults.items ++ (laid k l.i (map section_seen (map section_of (drop l.i l.sections)))).faults
    ≡ l.fn.self.faults.items ++ (laid k 0 (map section_seen (map section_of l.sections))).faults
