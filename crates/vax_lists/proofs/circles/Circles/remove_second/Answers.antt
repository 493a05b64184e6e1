use Rattle.std.proofs.Common.{List, arith, ap, ◌-◌, ◌∙◌, ℕ}
use Rattle.vax_lists.specs.Links.{lists_of}
use Rattle.vax_lists.proofs.Frames.{remove_second}
use Rattle.vax_lists.proofs.circles.Circles.remove_second.Goals as goal

pub remove-requires-clause-frame : goal.remove-requires-clause-frame
remove-requires-clause-frame c = (remove_second _ _ _ _ _ _ _ c.self.view_is c.self.invariant c.requires.there).low.frame_low

pub overflow_sub-self : goal.overflow_sub-self
overflow_sub-self c = omega (arith, (remove_second _ _ _ _ _ _ _ c.self.view_is c.self.invariant c.requires.there).some)

pub invariant_of-self : goal.invariant_of-self
invariant_of-self c = rw (c.remove.ensures.next, c.remove.ensures.before) (remove_second _ _ _ _ _ _ _ c.self.view_is c.self.invariant c.requires.there).linked

pub returns : goal.returns
returns c =
    ap (λ (z : List ℕ). lists_of z c.self.inside.limit c.self.inside.first (c.self.inside.second - 1)) c.remove.ensures.next
    ∙ (remove_second _ _ _ _ _ _ _ c.self.view_is c.self.invariant c.requires.there).value
