use Rattle.std.proofs.Common.{arith, ℕ, ◌-◌, length, take, drop, get_or, sym, ap, ◌∙◌, List}
use Rattle.std.proofs.lemmas.List.{append-nil, length-take, length-drop, take_rest}
use Rattle.vax_lex.specs.Tokens.{HeadFits, blank, no_more, begins, too_wide, no_token, stray_kind}
use Rattle.vax_lex.specs.Statements.{Context, open_brackets, context_after}
use Rattle.vax_lex.specs.Views.{context_view, head_view}
use Rattle.vax_lex.specs.declared.token.PieceKind.TheVariants as kinds
use Rattle.vax_lex.specs.declared.token.TokenKind.{TokenKind}
use Rattle.vax_lex.specs.declared.token.TokenKind.TheVariants.{Number}
use Rattle.vax_lex.proofs.Lines.{steps_at, blank_at, blank_here, fits_at, piece_at, piece_is, start_at, one_more, blank_more, covers_all}
use Rattle.vax_lex.proofs.Depth.{depth_after, depth_after_blank}
use Rattle.vax_lex.proofs.Reading.{written_by, written_only}
use Rattle.vax_lex.proofs.line.pieces.Goals as goal

pub loop-pieces-init : goal.loop-pieces-init
loop-pieces-init c = record {
  in_range = omega arith;
  brackets = omega (arith, ap (λ (x : Context). open_brackets x.place) c.line_start-context.ensures);
  so_far = record {
    within = λ k d h. absurd (omega (arith, ap length c.new-pieces.ensures.items, h));
    before = λ k d h. absurd (omega (arith, ap length c.new-pieces.ensures.items, h));
    in_order = λ i j d h k. absurd (omega (arith, ap length c.new-pieces.ensures.items, k));
    covered = λ k h. absurd (omega (arith, h));
  };
  same = start_at c.args.dialect c.new-pieces.result.items (context_view c.line_start-context.result) c.args.line.now c.new-pieces.ensures.items c.line_start-context.ensures;
}

pub returns-in-End-clause-exact : goal.returns-in-End-clause-exact
returns-in-End-clause-exact c = sym (append-nil c.loop-pieces.pieces.items) ∙ steps_at c.args.dialect c.loop-pieces.pieces.items (context_view c.loop-pieces.context) c.args.line.now c.loop-pieces.at (head_view c.head_of.result) no_more _ c.head_of.ensures (ap head_view c.in-End.is) c.loop-pieces.invariant.same

pub returns-in-End-clause-written : goal.returns-in-End-clause-written
returns-in-End-clause-written c = written_by c.args.dialect c.args.line.now c.loop-pieces.pieces.items (returns-in-End-clause-exact c)

pub returns-in-End-clause-only : goal.returns-in-End-clause-only
returns-in-End-clause-only c = written_only c.args.dialect c.args.line.now c.loop-pieces.pieces.items (returns-in-End-clause-exact c)

pub returns-in-End-clause-covers : goal.returns-in-End-clause-covers
returns-in-End-clause-covers c = covers_all c.args.line.now c.loop-pieces.at c.loop-pieces.pieces.items c.loop-pieces.invariant.in_range (fits_at (context_view c.loop-pieces.context) c.args.line.now c.loop-pieces.at (head_view c.head_of.result) no_more c.head_of.ensures (ap head_view c.in-End.is)) c.loop-pieces.invariant.so_far

pub loop-pieces-smaller-in-Blank : goal.loop-pieces-smaller-in-Blank
loop-pieces-smaller-in-Blank c = let here = blank_here c.args.line.now c.loop-pieces.at (fits_at (context_view c.loop-pieces.context) c.args.line.now c.loop-pieces.at (head_view c.head_of.result) blank c.head_of.ensures (ap head_view c.in-Blank.is)) in omega (arith, here.0)

pub loop-pieces-preserved-in-Blank : goal.loop-pieces-preserved-in-Blank
loop-pieces-preserved-in-Blank c = let here = blank_here c.args.line.now c.loop-pieces.at (fits_at (context_view c.loop-pieces.context) c.args.line.now c.loop-pieces.at (head_view c.head_of.result) blank c.head_of.ensures (ap head_view c.in-Blank.is)) in record {
  in_range = omega (arith, here.0);
  brackets = omega (arith, depth_after_blank (context_view c.loop-pieces.context) (context_view c.after_blank-context.result) c.after_blank-context.ensures, c.loop-pieces.invariant.brackets);
  so_far = blank_more c.args.line.now c.loop-pieces.at c.loop-pieces.pieces.items here.1 c.loop-pieces.invariant.so_far;
  same = blank_at c.args.dialect c.loop-pieces.pieces.items (context_view c.loop-pieces.context) (context_view c.after_blank-context.result) c.args.line.now c.loop-pieces.at (head_view c.head_of.result) _ c.head_of.ensures (ap head_view c.in-Blank.is) c.after_blank-context.ensures c.loop-pieces.invariant.same;
}

pub add-requires : goal.add-requires
add-requires c = let f : HeadFits (drop c.loop-pieces.at c.args.line.now) (begins c.in-Begins.kind c.in-Begins.length) = fits_at (context_view c.loop-pieces.context) c.args.line.now c.loop-pieces.at (head_view c.head_of.result) (begins c.in-Begins.kind c.in-Begins.length) c.head_of.ensures (ap head_view c.in-Begins.is) in let is = piece_is c.args.line.now c.loop-pieces.at (kinds.Token c.in-Begins.kind) c.in-Begins.length f.0 f.1 f.2 in omega (arith, is.0, c.requires)

pub slice_bounds-after-end : goal.slice_bounds-after-end
slice_bounds-after-end c = let f : HeadFits (drop c.loop-pieces.at c.args.line.now) (begins c.in-Begins.kind c.in-Begins.length) = fits_at (context_view c.loop-pieces.context) c.args.line.now c.loop-pieces.at (head_view c.head_of.result) (begins c.in-Begins.kind c.in-Begins.length) c.head_of.ensures (ap head_view c.in-Begins.is) in let is = piece_is c.args.line.now c.loop-pieces.at (kinds.Token c.in-Begins.kind) c.in-Begins.length f.0 f.1 f.2 in simp (length-take, length-drop) (omega (arith, is.0))

pub overflow_add-at-in-Begins : goal.overflow_add-at-in-Begins
overflow_add-at-in-Begins c = let f : HeadFits (drop c.loop-pieces.at c.args.line.now) (begins c.in-Begins.kind c.in-Begins.length) = fits_at (context_view c.loop-pieces.context) c.args.line.now c.loop-pieces.at (head_view c.head_of.result) (begins c.in-Begins.kind c.in-Begins.length) c.head_of.ensures (ap head_view c.in-Begins.is) in let is = piece_is c.args.line.now c.loop-pieces.at (kinds.Token c.in-Begins.kind) c.in-Begins.length f.0 f.1 f.2 in omega (arith, is.0, c.requires)

pub loop-pieces-smaller-in-Begins : goal.loop-pieces-smaller-in-Begins
loop-pieces-smaller-in-Begins c = let f : HeadFits (drop c.loop-pieces.at c.args.line.now) (begins c.in-Begins.kind c.in-Begins.length) = fits_at (context_view c.loop-pieces.context) c.args.line.now c.loop-pieces.at (head_view c.head_of.result) (begins c.in-Begins.kind c.in-Begins.length) c.head_of.ensures (ap head_view c.in-Begins.is) in let is = piece_is c.args.line.now c.loop-pieces.at (kinds.Token c.in-Begins.kind) c.in-Begins.length f.0 f.1 f.2 in omega (arith, is.0, f)

pub loop-pieces-preserved-in-Begins : goal.loop-pieces-preserved-in-Begins
loop-pieces-preserved-in-Begins c = let f : HeadFits (drop c.loop-pieces.at c.args.line.now) (begins c.in-Begins.kind c.in-Begins.length) = fits_at (context_view c.loop-pieces.context) c.args.line.now c.loop-pieces.at (head_view c.head_of.result) (begins c.in-Begins.kind c.in-Begins.length) c.head_of.ensures (ap head_view c.in-Begins.is) in let is = piece_is c.args.line.now c.loop-pieces.at (kinds.Token c.in-Begins.kind) c.in-Begins.length f.0 f.1 f.2 in
    let step = steps_at c.args.dialect c.loop-pieces.pieces.items (context_view c.loop-pieces.context) c.args.line.now c.loop-pieces.at (head_view c.head_of.result) (begins c.in-Begins.kind c.in-Begins.length) _ c.head_of.ensures (ap head_view c.in-Begins.is) c.loop-pieces.invariant.same in record {
      in_range = is.0;
      brackets = omega (arith, depth_after c.args.dialect (context_view c.loop-pieces.context) (context_view c.after-context.result) c.in-Begins.kind (take c.in-Begins.length (take (length c.args.line.now - c.loop-pieces.at) (drop c.loop-pieces.at c.args.line.now))) c.after-context.ensures, c.loop-pieces.invariant.brackets, f);
      so_far = one_more c.args.line.now c.loop-pieces.at c.loop-pieces.pieces.items c.add.new.pieces.items (kinds.Token c.in-Begins.kind) c.in-Begins.length c.in_ok-add-in-Begins.ensures is.1 c.loop-pieces.invariant.so_far;
      same = piece_at c.args.dialect c.loop-pieces.pieces.items c.add.new.pieces.items (context_view c.loop-pieces.context) (context_view c.after-context.result) c.args.line.now c.loop-pieces.at (kinds.Token c.in-Begins.kind) c.in-Begins.kind c.in-Begins.length _ step c.after-context.ensures c.in_ok-add-in-Begins.ensures;
    }

pub add-requires-in-Wide : goal.add-requires-in-Wide
add-requires-in-Wide c = let f : HeadFits (drop c.loop-pieces.at c.args.line.now) (too_wide c.in-Wide.length) = fits_at (context_view c.loop-pieces.context) c.args.line.now c.loop-pieces.at (head_view c.head_of.result) (too_wide c.in-Wide.length) c.head_of.ensures (ap head_view c.in-Wide.is) in let is = piece_is c.args.line.now c.loop-pieces.at kinds.Wide c.in-Wide.length f.0 f.1 tt in omega (arith, is.0, c.requires)

pub slice_bounds-after-end-in-Wide : goal.slice_bounds-after-end-in-Wide
slice_bounds-after-end-in-Wide c = let f : HeadFits (drop c.loop-pieces.at c.args.line.now) (too_wide c.in-Wide.length) = fits_at (context_view c.loop-pieces.context) c.args.line.now c.loop-pieces.at (head_view c.head_of.result) (too_wide c.in-Wide.length) c.head_of.ensures (ap head_view c.in-Wide.is) in let is = piece_is c.args.line.now c.loop-pieces.at kinds.Wide c.in-Wide.length f.0 f.1 tt in simp (length-take, length-drop) (omega (arith, is.0))

pub overflow_add-at-in-Wide : goal.overflow_add-at-in-Wide
overflow_add-at-in-Wide c = let f : HeadFits (drop c.loop-pieces.at c.args.line.now) (too_wide c.in-Wide.length) = fits_at (context_view c.loop-pieces.context) c.args.line.now c.loop-pieces.at (head_view c.head_of.result) (too_wide c.in-Wide.length) c.head_of.ensures (ap head_view c.in-Wide.is) in let is = piece_is c.args.line.now c.loop-pieces.at kinds.Wide c.in-Wide.length f.0 f.1 tt in omega (arith, is.0, c.requires)

pub loop-pieces-smaller-in-Wide : goal.loop-pieces-smaller-in-Wide
loop-pieces-smaller-in-Wide c = let f : HeadFits (drop c.loop-pieces.at c.args.line.now) (too_wide c.in-Wide.length) = fits_at (context_view c.loop-pieces.context) c.args.line.now c.loop-pieces.at (head_view c.head_of.result) (too_wide c.in-Wide.length) c.head_of.ensures (ap head_view c.in-Wide.is) in let is = piece_is c.args.line.now c.loop-pieces.at kinds.Wide c.in-Wide.length f.0 f.1 tt in omega (arith, is.0, f)

pub loop-pieces-preserved-in-Wide : goal.loop-pieces-preserved-in-Wide
loop-pieces-preserved-in-Wide c = let f : HeadFits (drop c.loop-pieces.at c.args.line.now) (too_wide c.in-Wide.length) = fits_at (context_view c.loop-pieces.context) c.args.line.now c.loop-pieces.at (head_view c.head_of.result) (too_wide c.in-Wide.length) c.head_of.ensures (ap head_view c.in-Wide.is) in let is = piece_is c.args.line.now c.loop-pieces.at kinds.Wide c.in-Wide.length f.0 f.1 tt in
    let step = steps_at c.args.dialect c.loop-pieces.pieces.items (context_view c.loop-pieces.context) c.args.line.now c.loop-pieces.at (head_view c.head_of.result) (too_wide c.in-Wide.length) _ c.head_of.ensures (ap head_view c.in-Wide.is) c.loop-pieces.invariant.same in record {
      in_range = is.0;
      brackets = omega (arith, depth_after c.args.dialect (context_view c.loop-pieces.context) (context_view c.after-context-in-Wide.result) (Number 0) (take c.in-Wide.length (take (length c.args.line.now - c.loop-pieces.at) (drop c.loop-pieces.at c.args.line.now))) c.after-context-in-Wide.ensures, c.loop-pieces.invariant.brackets, f);
      so_far = one_more c.args.line.now c.loop-pieces.at c.loop-pieces.pieces.items c.add-in-Wide.new.pieces.items kinds.Wide c.in-Wide.length c.in_ok-add-in-Wide.ensures is.1 c.loop-pieces.invariant.so_far;
      same = piece_at c.args.dialect c.loop-pieces.pieces.items c.add-in-Wide.new.pieces.items (context_view c.loop-pieces.context) (context_view c.after-context-in-Wide.result) c.args.line.now c.loop-pieces.at kinds.Wide (Number 0) c.in-Wide.length _ step c.after-context-in-Wide.ensures c.in_ok-add-in-Wide.ensures;
    }

pub add-requires-in-Nothing : goal.add-requires-in-Nothing
add-requires-in-Nothing c = let f : HeadFits (drop c.loop-pieces.at c.args.line.now) no_token = fits_at (context_view c.loop-pieces.context) c.args.line.now c.loop-pieces.at (head_view c.head_of.result) no_token c.head_of.ensures (ap head_view c.in-Nothing.is) in let is = piece_is c.args.line.now c.loop-pieces.at kinds.Bad 1 (omega arith) (omega (arith, f)) tt in omega (arith, is.0, c.requires)

pub bounds-rest-0 : goal.bounds-rest-0
bounds-rest-0 c = let f : HeadFits (drop c.loop-pieces.at c.args.line.now) no_token = fits_at (context_view c.loop-pieces.context) c.args.line.now c.loop-pieces.at (head_view c.head_of.result) no_token c.head_of.ensures (ap head_view c.in-Nothing.is) in simp (length-take, length-drop) (omega (arith, length-drop c.loop-pieces.at c.args.line.now, f))

pub slice_bounds-after-end-in-Nothing : goal.slice_bounds-after-end-in-Nothing
slice_bounds-after-end-in-Nothing c = let f : HeadFits (drop c.loop-pieces.at c.args.line.now) no_token = fits_at (context_view c.loop-pieces.context) c.args.line.now c.loop-pieces.at (head_view c.head_of.result) no_token c.head_of.ensures (ap head_view c.in-Nothing.is) in let is = piece_is c.args.line.now c.loop-pieces.at kinds.Bad 1 (omega arith) (omega (arith, f)) tt in simp (length-take, length-drop) (omega (arith, is.0))

pub loop-pieces-smaller : goal.loop-pieces-smaller
loop-pieces-smaller c = let f : HeadFits (drop c.loop-pieces.at c.args.line.now) no_token = fits_at (context_view c.loop-pieces.context) c.args.line.now c.loop-pieces.at (head_view c.head_of.result) no_token c.head_of.ensures (ap head_view c.in-Nothing.is) in let is = piece_is c.args.line.now c.loop-pieces.at kinds.Bad 1 (omega arith) (omega (arith, f)) tt in omega (arith, is.0, f)

pub loop-pieces-preserved : goal.loop-pieces-preserved
loop-pieces-preserved c = let f : HeadFits (drop c.loop-pieces.at c.args.line.now) no_token = fits_at (context_view c.loop-pieces.context) c.args.line.now c.loop-pieces.at (head_view c.head_of.result) no_token c.head_of.ensures (ap head_view c.in-Nothing.is) in let is = piece_is c.args.line.now c.loop-pieces.at kinds.Bad 1 (omega arith) (omega (arith, f)) tt in
    let step = steps_at c.args.dialect c.loop-pieces.pieces.items (context_view c.loop-pieces.context) c.args.line.now c.loop-pieces.at (head_view c.head_of.result) no_token _ c.head_of.ensures (ap head_view c.in-Nothing.is) c.loop-pieces.invariant.same in record {
      in_range = is.0;
      brackets = omega (arith, depth_after c.args.dialect (context_view c.loop-pieces.context) (context_view c.after-context-in-Nothing.result) c.stray_kind.result (take 1 (take (length c.args.line.now - c.loop-pieces.at) (drop c.loop-pieces.at c.args.line.now))) c.after-context-in-Nothing.ensures, c.loop-pieces.invariant.brackets, f);
      so_far = one_more c.args.line.now c.loop-pieces.at c.loop-pieces.pieces.items c.add-in-Nothing.new.pieces.items kinds.Bad 1 c.in_ok-add-in-Nothing.ensures is.1 c.loop-pieces.invariant.so_far;
      same = piece_at c.args.dialect c.loop-pieces.pieces.items c.add-in-Nothing.new.pieces.items (context_view c.loop-pieces.context) (context_view c.after-context-in-Nothing.result) c.args.line.now c.loop-pieces.at kinds.Bad (stray_kind (get_or (drop c.loop-pieces.at c.args.line.now) 0 0)) 1 _ step (c.after-context-in-Nothing.ensures ∙ ap (λ (k : TokenKind). context_after c.args.dialect (context_view c.loop-pieces.context) k (take 1 (take (length c.args.line.now - c.loop-pieces.at) (drop c.loop-pieces.at c.args.line.now)))) c.stray_kind.ensures ∙ ap (λ (bs : List ℕ). context_after c.args.dialect (context_view c.loop-pieces.context) (stray_kind (get_or bs 0 0)) (take 1 (take (length c.args.line.now - c.loop-pieces.at) (drop c.loop-pieces.at c.args.line.now)))) (take_rest c.args.line.now c.loop-pieces.at)) c.in_ok-add-in-Nothing.ensures;
    }
