use Rattle.std.proofs.Common.{◌∙◌, ap}
use Rattle.vax_lists.specs.Links.{FrameLists}
use Rattle.vax_lists.specs.Lines.{page_lists}
use Rattle.vax_lists.proofs.Moves.{cleans}
use Rattle.vax_lists.proofs.lists.Lists.clean.Goals as goal

pub remove_first-requires : goal.remove_first-requires
remove_first-requires c = record { there = (cleans _ _ _ _ _ _ c.self.view_is c.self.invariant c.requires.there).there }

pub invariant_of-self : goal.invariant_of-self
invariant_of-self c = rw c.remove_first.ensures (cleans _ _ _ _ _ _ c.self.view_is c.self.invariant c.requires.there).holds

pub returns : goal.returns
returns c = ap (λ (z : FrameLists). page_lists c.self.inside.held z c.self.inside.pages.items) c.remove_first.ensures ∙ (cleans _ _ _ _ _ _ c.self.view_is c.self.invariant c.requires.there).value
