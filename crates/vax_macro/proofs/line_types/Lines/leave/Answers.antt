use Rattle.std.proofs.Common.{◌≡◌, ◌<◌, ◌++◌, true, false, List, length, ap, arith, sym, ◌∙◌}
use Rattle.std.proofs.lemmas.Bool.Decides.{nat_tests}
use Rattle.std.specs.List.{flat_map}
use Rattle.std.specs.Prelude.{nat_lt}
use Rattle.vax_macro.specs.Directives.{lines_outside}
use Rattle.vax_macro.specs.LineViews.{frame_lines, lines_of, source_of}
use Rattle.vax_macro.specs.Lines.{SourceLine}
use Rattle.vax_macro.proofs.Frames.{opened}
use Rattle.vax_macro.proofs.Leaving.{left_out, stays}
use Rattle.vax_macro.specs.declared.line_types.Frame.{Frame}
use Rattle.vax_macro.proofs.line_types.Lines.leave.Goals as goal

pub loop-frame-preserved-then-frame-depth : goal.loop-frame-preserved-then-frame-depth
unfolding lines_of source_of
loop-frame-preserved-then-frame-depth c =
    let deep : nat_lt c.in-Some.frame.depth c.args.depth ≡ false = let h = c.if-frame-depth.true in grind (arith, nat_tests, h) in
    sym (left_out c.args.depth c.loop-frame.self.frames.items (source_of c.loop-frame.self) c.in-Some.frame c.pop_front.new.self.items c.in-Some.ensures.items deep)
    ∙ c.loop-frame.invariant

pub returns-then-rewind : goal.returns-then-rewind
unfolding lines_of source_of
returns-then-rewind c =
    let f : Frame = c.rewind.new.self in
    let rest : List SourceLine = flat_map frame_lines c.pop_front.new.self.items ++ source_of c.loop-frame.self in
    let shallow : nat_lt f.depth c.args.depth ≡ true = let h = c.if-frame-depth.false in let e = c.rewind.ensures.depth in grind (arith, nat_tests, h, e) in
    let left : f.at < length f.template.value.lines.items = rw c.if-rewind.true at c.rewind.ensures.left in
    c.in_ok-open.ensures
    ∙ sym (stays c.args.depth f rest left shallow)
    ∙ ap (λ (ls : List SourceLine). lines_outside c.args.depth (ls ++ rest)) c.rewind.ensures.same
    ∙ sym (ap (lines_outside c.args.depth) (opened c.pop_front.new.self.items c.loop-frame.self.frames.items (source_of c.loop-frame.self) c.in-Some.frame c.in-Some.ensures.items))
    ∙ c.loop-frame.invariant
