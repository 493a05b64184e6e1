use Rattle.std.proofs.Common.{◌≡◌, length}
use Rattle.vax_macro.specs.Directives.{lines_outside}
use Rattle.vax_macro.specs.LineViews.{lines_of}
use Rattle.vax_macro.proofs.line_types.Lines.leave.Given as goal

abbrev pub invariant-loop-frame : goal.invariant-loop-frame
invariant-loop-frame l = lines_outside l.depth (lines_of l.self) ≡ lines_outside l.depth (lines_of l.fn.self)

abbrev pub decreases-loop-frame : goal.decreases-loop-frame
decreases-loop-frame l = length l.self.frames.items
