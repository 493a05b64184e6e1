use Rattle.std.proofs.Common.{◌≡◌, map, sym, ◌∙◌, arith, ap}
use Rattle.std.proofs.lemmas.List.{map-append}
use Rattle.vax_asm_statement.specs.Items.{piece_seen, prefixed}
use Rattle.vax_asm_statement.proofs.Texts.{text_piece, value_ends, value_grows}
use Rattle.vax_asm_statement.proofs.items.split_pieces.Goals as goal

pub loop-i-preserved-then-closes : goal.loop-i-preserved-then-closes
loop-i-preserved-then-closes c = record {
  behind = omega arith;
  shallow = omega arith;
  same = rw (c.in_ok-push.ensures.items, map-append piece_seen) (sym (value_ends (map piece_seen c.loop-i.found.items) c.loop-i.depth _ _ c.args.tokens.now c.loop-i.i _ c.loop-i-test.true c.if-depth-gt0.true (sym c.closes.ensures ∙ c.if-closes.true)) ∙ c.loop-i.invariant.same);
}

pub loop-i-preserved-then-depth-gt0 : goal.loop-i-preserved-then-depth-gt0
loop-i-preserved-then-depth-gt0 c = record {
  behind = omega arith;
  shallow = grind (arith, c.depth_after-depth.ensures);
  same = rw (c.depth_after-depth.ensures) (ap (λ o. prefixed (map piece_seen c.loop-i.found.items) o) (sym (value_grows c.loop-i.depth c.loop-i.begin c.args.tokens.now c.loop-i.i _ c.loop-i.invariant.behind c.loop-i-test.true c.if-depth-gt0.true (sym c.closes.ensures ∙ c.if-closes.false))) ∙ c.loop-i.invariant.same);
}

pub loop-i-preserved-then-is_text_token : goal.loop-i-preserved-then-is_text_token
loop-i-preserved-then-is_text_token c =
    let none : c.loop-i.depth ≡ 0 = omega arith in
    record {
      behind = omega arith;
      shallow = omega arith;
      same = rw (none, c.in_ok-push-2.ensures.items, map-append piece_seen) (sym (text_piece (map piece_seen c.loop-i.found.items) _ _ c.args.tokens.now c.loop-i.i _ c.loop-i-test.true (sym c.is_text_token.ensures ∙ c.if-is_text_token.true)) ∙ rw none at c.loop-i.invariant.same);
    }
