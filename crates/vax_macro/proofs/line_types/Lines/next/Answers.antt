use Rattle.std.proofs.Common.{◌≡◌, [], sym, ◌∙◌}
use Rattle.vax_macro.specs.LineViews.{frame_lines, lines_of, source_of}
use Rattle.vax_macro.proofs.Frames.{closes}
use Rattle.vax_macro.proofs.line_types.Lines.next.Goals as goal

pub loop-frame-preserved : goal.loop-frame-preserved
unfolding lines_of source_of
loop-frame-preserved c =
    let none : frame_lines c.in-Some.frame ≡ [] = rw c.in_default-next.is at c.in_ok-next.ensures in
    sym (closes c.loop-frame.self.frames.items (source_of c.loop-frame.self) c.in-Some.frame c.pop_front.new.self.items c.in-Some.ensures.items none) ∙ c.loop-frame.invariant
