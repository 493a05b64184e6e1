use Rattle.std.proofs.Common.{◌≡◌, ℕ, List, sym, ap, ◌∙◌}
use Rattle.std.specs.Str.{bytes_eq}
use Rattle.vax_link.proofs.RoomLaws.{left_false_and, none_writable, right_false_and, writable_here, writable_more}
use Rattle.vax_link.proofs.areas.is_writable.Goals as goal
use Rattle.vax_link.proofs.areas.is_writable.Goals.{else-eq-via-then-eq+else-piece, else-eq-via-else-eq}

pub loop-piece-init : goal.loop-piece-init
loop-piece-init c = none_writable c.args.name.now

pub returns-then-piece : goal.returns-then-piece
returns-then-piece c =
    writable_here c.args.pieces.now c.loop-piece.piece-index c.piece-item.result c.args.name.now c.loop-piece-test.true c.piece-item.is
    (ap (λ (n : List ℕ). bytes_eq n c.args.name.now) (sym c.as_slice.ensures) ∙ sym c.if-eq.ensures) c.if-piece.true

pub loop-piece-preserved : goal.loop-piece-preserved
loop-piece-preserved c =
    let x = c.piece-item.result in
    let name = c.args.name.now in
    let named : bytes_eq x.now.name name ≡ c.eq.result = ap (λ (n : List ℕ). bytes_eq n name) (sym c.as_slice.ensures) ∙ sym c.eq.ensures in
    elim c.else-eq.branch [
      | else-eq-via-then-eq+else-piece w ↦
          writable_more c.args.pieces.now c.loop-piece.piece-index x name c.loop-piece-test.true c.piece-item.is (right_false_and (bytes_eq x.now.name name) x.now.write w.if-piece.false) c.loop-piece.invariant
      | else-eq-via-else-eq w ↦
          writable_more c.args.pieces.now c.loop-piece.piece-index x name c.loop-piece-test.true c.piece-item.is (left_false_and (bytes_eq x.now.name name) x.now.write (named ∙ w.if-eq.false)) c.loop-piece.invariant
    ]
