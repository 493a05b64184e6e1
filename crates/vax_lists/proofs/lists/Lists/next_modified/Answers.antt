use Rattle.std.proofs.Common.{arith, ◌∙◌}
use Rattle.vax_lists.proofs.Moves.{no_modified, some_modified}
use Rattle.vax_lists.proofs.lists.Lists.next_modified.Goals as goal

pub returns-in_err-frame : goal.returns-in_err-frame
returns-in_err-frame c = c.from_residual.ensures ∙ no_modified c.self.inside.held c.self.inside.modified c.self.inside.pages.items _ c.self.view_is c.in_err-frame.ensures.first

pub returns : goal.returns
returns c =
    some_modified c.self.inside.held c.self.inside.modified c.self.inside.pages.items _ _ _ c.self.view_is c.in_ok-frame.ensures.first c.index.ensures (omega (arith, c.in_ok-frame.ensures.below, c.self.invariant.modified_limit))
