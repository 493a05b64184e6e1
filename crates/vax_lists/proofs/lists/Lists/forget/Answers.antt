use Rattle.std.proofs.Common.{◌∙◌, ◌+◌, ap, length}
use Rattle.vax_lists.specs.Links.{FrameLists}
use Rattle.vax_lists.specs.Lines.{PageLists, page_lists}
use Rattle.vax_lists.proofs.Moves.{forgets}
use Rattle.vax_lists.proofs.lists.Lists.forget.Goals as goal

pub remove_second-requires : goal.remove_second-requires
remove_second-requires c = record { there = (forgets _ _ _ _ _ _ c.self.view_is c.self.invariant c.requires.there).there }

pub invariant_of-self : goal.invariant_of-self
invariant_of-self c = rw c.remove_second.ensures (forgets _ _ _ _ _ _ c.self.view_is c.self.invariant c.requires.there).holds

pub returns-clause-kept : goal.returns-clause-kept
returns-clause-kept c = ap (λ (z : FrameLists). page_lists z c.self.inside.modified c.self.inside.pages.items) c.remove_second.ensures ∙ (forgets _ _ _ _ _ _ c.self.view_is c.self.invariant c.requires.there).value

pub returns-clause-fewer : goal.returns-clause-fewer
returns-clause-fewer c =
    ap (λ (z : PageLists). length z.kept + 1) (ap (λ (z : FrameLists). page_lists z c.self.inside.modified c.self.inside.pages.items) c.remove_second.ensures ∙ (forgets _ _ _ _ _ _ c.self.view_is c.self.invariant c.requires.there).value)
    ∙ (forgets _ _ _ _ _ _ c.self.view_is c.self.invariant c.requires.there).fewer
