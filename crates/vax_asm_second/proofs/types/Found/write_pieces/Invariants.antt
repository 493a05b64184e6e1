use Rattle.std.proofs.Common.{◌++◌, length, map, drop}
use Rattle.vax_asm_second.proofs.Steps.{Wrote}
use Rattle.vax_asm_second.specs.Faults.{first, first_of}
use Rattle.vax_asm_second.specs.Laid.{outputs}
use Rattle.vax_asm_second.specs.View.{known_of}
use Rattle.vax_asm_sections.specs.View.{part_of}
use Rattle.vax_asm_first.specs.View.{part_seen}
use Rattle.vax_asm_second.proofs.types.Found.write_pieces.Given as goal

abbrev pub invariant-loop-piece : goal.invariant-loop-piece
invariant-loop-piece l =
    let k = known_of l.known in
    let all = outputs k l.section 0 (map part_seen (map part_of l.pieces)) in
    Wrote l.out.items l.self.relocs.items l.self.fault (outputs k l.section (length l.out.items) (map part_seen (map part_of (drop l.piece-index l.pieces))))
    all.bytes (l.fn.self.relocs.items ++ all.relocs) (first l.fn.self.fault (first_of all.faults))
