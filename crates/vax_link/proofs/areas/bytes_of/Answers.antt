use Rattle.std.proofs.Common.{◌≡◌, ◌≤◌, ◌*◌, ◌-◌, ◌++◌, [], ℕ, true, false, List, length, take, sym, ap, ◌∙◌, inl, inr, arith, rules}
use Rattle.std.specs.Prelude.{◌==◌, not, ◌&&◌, replicate}
use Rattle.std.specs.List.{fold, zip}
use Rattle.std.specs.Str.{bytes_eq}
use Rattle.std.specs.Borrow.{Bor}
use Rattle.std.proofs.lemmas.Slice.Zip.{either_empty_from_Zip}
use Rattle.vax_module.specs.declared.Section.{Section}
use Rattle.vax_link.specs.Layout.{align_of, sections_in}
use Rattle.vax_link.specs.Linked.{with_piece}
use Rattle.vax_link.specs.Placed.{bytes_in}
use Rattle.vax_link.proofs.AreaLaws.{first_ended, piece_joined, piece_passed, piece_put, second_ended}
use Rattle.vax_link.proofs.RoomLaws.{left_false_and, right_false_and}
use Rattle.vax_link.proofs.areas.bytes_of.Goals as goal
use Rattle.vax_link.proofs.areas.bytes_of.Goals.{else-eq-via-then-eq+else-not-is_empty, else-eq-via-else-eq}

pub loop-piece-preserved-then-not-is_empty : goal.loop-piece-preserved-then-not-is_empty
loop-piece-preserved-then-not-is_empty c =
    let name = c.args.name.now in
    let align = c.from-align.result in
    let joined = c.loop-piece.joined.items in
    let bytes = c.in-Some.bytes.now.items in
    let begin = c.div_ceil.result * align in
    let x = c.in-Some.piece.now in
    let total = fold (with_piece name align) [] (zip (sections_in c.args.layout.now.pieces.items) (bytes_in c.args.filled.now)) in
    let some : 1 ≤ align = omega (arith, c.align_of.ensures.some, c.from-align.ensures) in
    let named : bytes_eq x.now.name name ≡ true = ap (λ (n : List ℕ). bytes_eq n name) (sym c.as_slice.ensures) ∙ sym c.if-eq.ensures in
    let full : (length bytes == 0) ≡ false = search rules in
    let long : c.len.result ≡ length joined = search rules in
    let here =
    piece_put name align joined bytes c.resize.new.self.items c.extend_from_slice.new.self.items begin c.len.result x.now some named full long (ap (λ (n : ℕ). n * align) c.div_ceil.ensures)
    (c.in_ok-resize.ensures.items ∙ ap (λ (n : ℕ). take begin joined ++ replicate (begin - n) 0) (sym c.len.ensures))
    (c.in_ok-extend_from_slice.ensures.items ∙ ap (λ (b : List ℕ). c.resize.new.self.items ++ b) c.deref-then-not-is_empty.ensures.value) in
    piece_joined name align joined c.extend_from_slice.new.self.items c.loop-piece.piece-iterator.a.rest.now c.next.new.self.a.rest.now x c.loop-piece.piece-iterator.b.rest.now c.next.new.self.b.rest.now c.in-Some.bytes.now total
    c.in-Some.ensures.steps.0 c.in-Some.ensures.steps.1 here c.loop-piece.invariant

pub loop-piece-preserved : goal.loop-piece-preserved
loop-piece-preserved c =
    let name = c.args.name.now in
    let align = c.from-align.result in
    let joined = c.loop-piece.joined.items in
    let bytes = c.in-Some.bytes.now.items in
    let x = c.in-Some.piece.now in
    let total = fold (with_piece name align) [] (zip (sections_in c.args.layout.now.pieces.items) (bytes_in c.args.filled.now)) in
    let named : bytes_eq x.now.name name ≡ c.eq.result = ap (λ (n : List ℕ). bytes_eq n name) (sym c.as_slice.ensures) ∙ sym c.eq.ensures in
    let other : (bytes_eq x.now.name name && not (length bytes == 0)) ≡ false = elim c.else-eq.branch [
      | else-eq-via-then-eq+else-not-is_empty w ↦
          let none : (length bytes == 0) ≡ true = search rules in
          right_false_and (bytes_eq x.now.name name) (not (length bytes == 0)) (ap not none)
      | else-eq-via-else-eq w ↦ left_false_and (bytes_eq x.now.name name) (not (length bytes == 0)) (named ∙ w.if-eq.false)
    ] in
    piece_joined name align joined joined c.loop-piece.piece-iterator.a.rest.now c.next.new.self.a.rest.now x c.loop-piece.piece-iterator.b.rest.now c.next.new.self.b.rest.now c.in-Some.bytes.now total
    c.in-Some.ensures.steps.0 c.in-Some.ensures.steps.1 (piece_passed name align joined bytes x.now other) c.loop-piece.invariant

pub returns : goal.returns
returns c =
    let name = c.args.name.now in
    let align = c.from-align.result in
    let joined = c.loop-piece.joined.items in
    let at = c.loop-piece.piece-iterator in
    let pieces = sections_in c.args.layout.now.pieces.items in
    let total = fold (with_piece name align) [] (zip pieces (bytes_in c.args.filled.now)) in
    let all : joined ≡ total = elim (either_empty_from_Zip at c.next.new.self c.next.result c.in-None.is c.next.ensures.steps) [
      | inl e ↦ first_ended name align joined at.a.rest.now at.b.rest.now total e c.loop-piece.invariant
      | inr e ↦ second_ended name align joined at.a.rest.now at.b.rest.now total e c.loop-piece.invariant
    ] in
    let align_is : align ≡ align_of name pieces = c.from-align.ensures ∙ c.align_of.ensures.align ∙ ap (λ (ss : List (Bor Section)). align_of name (sections_in ss)) c.deref.ensures.value in
    all ∙ ap (λ (a : ℕ). fold (with_piece name a) [] (zip pieces (bytes_in c.args.filled.now))) align_is
