use Rattle.std.proofs.Common.{List, arith, ap, ◌+◌, ◌∙◌, ℕ}
use Rattle.vax_lists.specs.Links.{lists_of}
use Rattle.vax_lists.proofs.Frames.{push_first}
use Rattle.vax_lists.proofs.circles.Circles.push_first.Goals as goal

pub overflow_add-self : goal.overflow_add-self
overflow_add-self c = omega (arith, (push_first _ _ _ _ _ _ _ c.self.view_is c.self.invariant c.requires.below c.requires.first c.requires.second).few)

pub invariant_of-self : goal.invariant_of-self
invariant_of-self c = rw (c.append.ensures.next, c.append.ensures.before) (push_first _ _ _ _ _ _ _ c.self.view_is c.self.invariant c.requires.below c.requires.first c.requires.second).linked

pub returns : goal.returns
returns c =
    ap (λ (z : List ℕ). lists_of z c.self.inside.limit (c.self.inside.first + 1) c.self.inside.second) c.append.ensures.next
    ∙ (push_first _ _ _ _ _ _ _ c.self.view_is c.self.invariant c.requires.below c.requires.first c.requires.second).value
