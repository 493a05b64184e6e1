use Rattle.std.proofs.Common.{◌≡◌, drop, map}
use Rattle.std.specs.List.{filter}
use Rattle.vax_asm_causes.specs.Counts.{often_in, with_names}
use Rattle.vax_asm_causes.specs.Places.{is_name, piece_text}
use Rattle.vax_asm_causes.proofs.counts.count_pieces.Given as goal

abbrev pub invariant-loop-piece : goal.invariant-loop-piece
invariant-loop-piece l =
    with_names (map (piece_text l.line) (filter is_name (drop l.piece-index l.pieces))) (often_in l.counts)
    ≡ with_names (map (piece_text l.line) (filter is_name l.pieces)) (often_in l.fn.counts)
