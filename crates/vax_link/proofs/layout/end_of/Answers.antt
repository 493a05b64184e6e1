use Rattle.std.proofs.Common.{◌+◌, ◌<◌, ℕ, List, length, sym, ap, ◌∙◌, arith}
use Rattle.std.specs.Prelude.{◌==◌}
use Rattle.std.specs.Str.{bytes_eq}
use Rattle.vax_link.proofs.RoomLaws.{end_too_far}
use Rattle.vax_link.proofs.layout.end_of.Goals as goal
use Rattle.vax_link.proofs.layout.end_of.Goals.{then-begin-gt-MOST-via-then-begin-gt-MOST, then-begin-gt-MOST-via-else-begin-gt-MOST+then-bytes-begin}

pub returns-then-begin-gt-MOST-clause-none : goal.returns-then-begin-gt-MOST-clause-none
returns-then-begin-gt-MOST-clause-none c =
    let far : 0x1000000 < c.aligned-begin.result + length c.as_slice-bytes.result.now = elim c.then-begin-gt-MOST.branch [
      | then-begin-gt-MOST-via-then-begin-gt-MOST w ↦ omega (arith, w.if-begin-gt-MOST.true)
      | then-begin-gt-MOST-via-else-begin-gt-MOST+then-bytes-begin w ↦ omega (arith, w.if-begin-gt-MOST.false, w.if-bytes-begin.true)
    ] in
    end_too_far c.args.pieces.now c.loop-piece.piece-index c.piece-item.result c.args.name.now c.args.align c.loop-piece.end c.aligned-begin.result (length c.as_slice-bytes.result.now) 0x1000000
    c.loop-piece-test.true c.piece-item.is c.requires
    (ap (λ (n : List ℕ). bytes_eq n c.args.name.now) (sym c.as_slice.ensures) ∙ sym c.if-eq.ensures)
    (ap (λ (b : List ℕ). length b == 0) (sym c.as_slice-bytes.ensures) ∙ sym c.if-not-is_empty.ensures)
    c.loop-piece.invariant.end c.aligned-begin.ensures.next (ap length c.as_slice-bytes.ensures) far
