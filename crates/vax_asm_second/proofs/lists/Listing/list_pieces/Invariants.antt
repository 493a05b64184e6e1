use Rattle.std.proofs.Common.{◌≡◌, ◌++◌, length, map, drop}
use Rattle.vax_asm_second.specs.Laid.{outputs}
use Rattle.vax_asm_second.specs.View.{known_of}
use Rattle.vax_asm_sections.specs.View.{part_of}
use Rattle.vax_asm_first.specs.View.{part_seen}
use Rattle.vax_asm_second.proofs.lists.Listing.list_pieces.Given as goal

abbrev pub invariant-loop-piece : goal.invariant-loop-piece
invariant-loop-piece l =
    let k = known_of l.known in
    l.self.faults.items ++ (outputs k l.section (length l.self.bytes.items) (map part_seen (map part_of (drop l.piece-index l.pieces)))).faults
    ≡ l.fn.self.faults.items ++ (outputs k l.section 0 (map part_seen (map part_of l.pieces))).faults
