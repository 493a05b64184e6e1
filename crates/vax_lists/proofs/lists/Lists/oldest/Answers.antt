use Rattle.std.proofs.Common.{arith, ◌∙◌}
use Rattle.vax_lists.proofs.Moves.{no_kept, some_kept}
use Rattle.vax_lists.proofs.lists.Lists.oldest.Goals as goal

pub returns-in_err-frame : goal.returns-in_err-frame
returns-in_err-frame c = c.from_residual.ensures ∙ no_kept c.self.inside.held c.self.inside.modified c.self.inside.pages.items _ c.self.view_is c.in_err-frame.ensures.first

pub returns : goal.returns
returns c =
    some_kept c.self.inside.held c.self.inside.modified c.self.inside.pages.items _ _ _ c.self.view_is c.in_ok-frame.ensures.first c.index.ensures (omega (arith, c.in_ok-frame.ensures.below, c.self.invariant.held_limit))
