use Rattle.std.proofs.Common.{◌++◌, map, drop}
use Rattle.vax_asm_second.proofs.Steps.{Placed}
use Rattle.vax_asm_second.specs.Faults.{first, first_of}
use Rattle.vax_asm_second.specs.Laid.{laid}
use Rattle.vax_asm_second.specs.View.{known_of}
use Rattle.vax_asm_sections.specs.View.{section_of}
use Rattle.vax_asm_first.specs.View.{section_seen}
use Rattle.vax_asm_second.proofs.types.Found.lay_all.Given as goal

abbrev pub invariant-loop-i : goal.invariant-loop-i
invariant-loop-i l =
    let k = known_of l.known in
    let all = laid k 0 (map section_seen (map section_of l.sections)) in
    Placed l.list.items l.self.relocs.items l.self.fault (laid k l.i (map section_seen (map section_of (drop l.i l.sections))))
    all.sections (l.fn.self.relocs.items ++ all.relocs) (first l.fn.self.fault (first_of all.faults))
