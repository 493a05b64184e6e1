use Rattle.std.proofs.Common.{arith, ◌∙◌}
use Rattle.vax_lists.proofs.Moves.{no_order, some_order}
use Rattle.vax_lists.proofs.lists.Lists.first.Goals as goal

pub returns-in_err-frame-clause-first : goal.returns-in_err-frame-clause-first
returns-in_err-frame-clause-first c = c.from_residual.ensures ∙ no_order c.self.inside.held c.self.inside.modified c.self.inside.pages.items _ c.self.view_is c.in_err-frame.ensures.first

pub returns-clause-first : goal.returns-clause-first
returns-clause-first c =
    some_order c.self.inside.held c.self.inside.modified c.self.inside.pages.items _ _ _ c.self.view_is c.in_ok-frame.ensures.first c.index.ensures (omega (arith, c.in_ok-frame.ensures.below, c.self.invariant.held_limit))
