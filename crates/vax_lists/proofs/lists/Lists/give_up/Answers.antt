use Rattle.std.proofs.Common.{◌∙◌, ◌+◌, ap, length}
use Rattle.vax_lists.specs.Links.{FrameLists}
use Rattle.vax_lists.specs.Lines.{PageLists, page_lists}
use Rattle.vax_lists.proofs.Moves.{gives_up}
use Rattle.vax_lists.proofs.lists.Lists.give_up.Goals as goal

pub remove_first-requires : goal.remove_first-requires
remove_first-requires c = record { there = (gives_up _ _ _ _ _ _ c.self.view_is c.self.invariant c.requires.there).there }

pub invariant_of-self : goal.invariant_of-self
invariant_of-self c = rw c.remove_first.ensures (gives_up _ _ _ _ _ _ c.self.view_is c.self.invariant c.requires.there).holds

pub returns-clause-order : goal.returns-clause-order
returns-clause-order c = ap (λ (z : FrameLists). page_lists z c.self.inside.modified c.self.inside.pages.items) c.remove_first.ensures ∙ (gives_up _ _ _ _ _ _ c.self.view_is c.self.invariant c.requires.there).value

pub returns-clause-fewer : goal.returns-clause-fewer
returns-clause-fewer c =
    ap (λ (z : PageLists). length z.order + 1) (ap (λ (z : FrameLists). page_lists z c.self.inside.modified c.self.inside.pages.items) c.remove_first.ensures ∙ (gives_up _ _ _ _ _ _ c.self.view_is c.self.invariant c.requires.there).value)
    ∙ (gives_up _ _ _ _ _ _ c.self.view_is c.self.invariant c.requires.there).fewer
