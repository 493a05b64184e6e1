use Rattle.std.proofs.Common.{◌∙◌, ◌+◌, ap, length}
use Rattle.vax_lists.specs.Links.{FrameLists}
use Rattle.vax_lists.specs.Lines.{PageLists, page_lists}
use Rattle.vax_lists.proofs.Moves.{keeps}
use Rattle.vax_lists.proofs.lists.Lists.keep.Goals as goal

pub remove_first-requires : goal.remove_first-requires
remove_first-requires c = record { there = (keeps _ _ _ _ _ _ c.self.view_is c.self.invariant c.requires.below c.requires.there c.requires.new).there }

pub push_second-requires-clause-below : goal.push_second-requires-clause-below
push_second-requires-clause-below c = rw c.remove_first.ensures (keeps _ _ _ _ _ _ c.self.view_is c.self.invariant c.requires.below c.requires.there c.requires.new).low

pub push_second-requires-clause-first : goal.push_second-requires-clause-first
push_second-requires-clause-first c = rw c.remove_first.ensures (keeps _ _ _ _ _ _ c.self.view_is c.self.invariant c.requires.below c.requires.there c.requires.new).first

pub push_second-requires-clause-second : goal.push_second-requires-clause-second
push_second-requires-clause-second c = rw c.remove_first.ensures (keeps _ _ _ _ _ _ c.self.view_is c.self.invariant c.requires.below c.requires.there c.requires.new).second

pub invariant_of-self : goal.invariant_of-self
invariant_of-self c = rw (c.push_second.ensures, c.remove_first.ensures) (keeps _ _ _ _ _ _ c.self.view_is c.self.invariant c.requires.below c.requires.there c.requires.new).holds

pub returns-clause-moved : goal.returns-clause-moved
returns-clause-moved c =
    ap (λ (z : FrameLists). page_lists z c.self.inside.modified c.self.inside.pages.items) c.push_second.ensures
    ∙ rw c.remove_first.ensures (keeps _ _ _ _ _ _ c.self.view_is c.self.invariant c.requires.below c.requires.there c.requires.new).value

pub returns-clause-fewer : goal.returns-clause-fewer
returns-clause-fewer c =
    ap (λ (z : FrameLists). length (page_lists z c.self.inside.modified c.self.inside.pages.items).order + 1) c.push_second.ensures
    ∙ rw c.remove_first.ensures (ap (λ (z : PageLists). length z.order + 1) (keeps _ _ _ _ _ _ c.self.view_is c.self.invariant c.requires.below c.requires.there c.requires.new).value ∙ (keeps _ _ _ _ _ _ c.self.view_is c.self.invariant c.requires.below c.requires.there c.requires.new).fewer)
