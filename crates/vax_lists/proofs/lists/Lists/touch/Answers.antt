use Rattle.std.proofs.Common.{◌∙◌, ap}
use Rattle.vax_lists.specs.Links.{FrameLists}
use Rattle.vax_lists.specs.Lines.{page_lists}
use Rattle.vax_lists.proofs.Moves.{touches}
use Rattle.vax_lists.proofs.lists.Lists.touch.Goals as goal

pub push_first-requires-clause-below : goal.push_first-requires-clause-below
push_first-requires-clause-below c = (touches _ _ _ _ _ _ c.self.view_is c.self.invariant c.requires.below c.requires.there c.requires.new).low

pub push_first-requires-clause-first : goal.push_first-requires-clause-first
push_first-requires-clause-first c = (touches _ _ _ _ _ _ c.self.view_is c.self.invariant c.requires.below c.requires.there c.requires.new).first

pub push_first-requires-clause-second : goal.push_first-requires-clause-second
push_first-requires-clause-second c = (touches _ _ _ _ _ _ c.self.view_is c.self.invariant c.requires.below c.requires.there c.requires.new).second

pub invariant_of-self : goal.invariant_of-self
invariant_of-self c = rw c.push_first.ensures (touches _ _ _ _ _ _ c.self.view_is c.self.invariant c.requires.below c.requires.there c.requires.new).holds

pub returns : goal.returns
returns c = ap (λ (z : FrameLists). page_lists c.self.inside.held z c.self.inside.pages.items) c.push_first.ensures ∙ (touches _ _ _ _ _ _ c.self.view_is c.self.invariant c.requires.below c.requires.there c.requires.new).value
