use Rattle.std.proofs.Common.{◌∙◌, ◌+◌, ap, length}
use Rattle.vax_lists.specs.Links.{FrameLists}
use Rattle.vax_lists.specs.Lines.{PageLists, page_lists}
use Rattle.vax_lists.proofs.Moves.{takes_back}
use Rattle.vax_lists.proofs.lists.Lists.take_back.Goals as goal

pub remove_second-requires : goal.remove_second-requires
remove_second-requires c = record { there = (takes_back _ _ _ _ _ _ c.self.view_is c.self.invariant c.requires.below c.requires.there c.requires.new).there }

pub push_first-requires-clause-below : goal.push_first-requires-clause-below
push_first-requires-clause-below c = rw c.remove_second.ensures (takes_back _ _ _ _ _ _ c.self.view_is c.self.invariant c.requires.below c.requires.there c.requires.new).low

pub push_first-requires-clause-first : goal.push_first-requires-clause-first
push_first-requires-clause-first c = rw c.remove_second.ensures (takes_back _ _ _ _ _ _ c.self.view_is c.self.invariant c.requires.below c.requires.there c.requires.new).first

pub push_first-requires-clause-second : goal.push_first-requires-clause-second
push_first-requires-clause-second c = rw c.remove_second.ensures (takes_back _ _ _ _ _ _ c.self.view_is c.self.invariant c.requires.below c.requires.there c.requires.new).second

pub invariant_of-self : goal.invariant_of-self
invariant_of-self c = rw (c.push_first.ensures, c.remove_second.ensures) (takes_back _ _ _ _ _ _ c.self.view_is c.self.invariant c.requires.below c.requires.there c.requires.new).holds

pub returns-clause-moved : goal.returns-clause-moved
returns-clause-moved c =
    ap (λ (z : FrameLists). page_lists z c.self.inside.modified c.self.inside.pages.items) c.push_first.ensures
    ∙ rw c.remove_second.ensures (takes_back _ _ _ _ _ _ c.self.view_is c.self.invariant c.requires.below c.requires.there c.requires.new).value

pub returns-clause-fewer : goal.returns-clause-fewer
returns-clause-fewer c =
    ap (λ (z : FrameLists). length (page_lists z c.self.inside.modified c.self.inside.pages.items).kept + 1) c.push_first.ensures
    ∙ rw c.remove_second.ensures (ap (λ (z : PageLists). length z.kept + 1) (takes_back _ _ _ _ _ _ c.self.view_is c.self.invariant c.requires.below c.requires.there c.requires.new).value ∙ (takes_back _ _ _ _ _ _ c.self.view_is c.self.invariant c.requires.below c.requires.there c.requires.new).fewer)
