use Rattle.std.proofs.Common.{◌∙◌, ap, slice_set}
use Rattle.vax_lists.specs.Links.{FrameLists}
use Rattle.vax_lists.specs.Lines.{page_lists}
use Rattle.vax_lists.proofs.Moves.{serves}
use Rattle.vax_lists.proofs.lists.Lists.serve.Goals as goal

pub push_first-requires-clause-first : goal.push_first-requires-clause-first
push_first-requires-clause-first c = (serves _ _ _ _ _ _ c.self.view_is c.self.invariant c.requires.below c.requires.new c.requires.unserved c.requires.unkept c.requires.unmodified).first

pub push_first-requires-clause-second : goal.push_first-requires-clause-second
push_first-requires-clause-second c = (serves _ _ _ _ _ _ c.self.view_is c.self.invariant c.requires.below c.requires.new c.requires.unserved c.requires.unkept c.requires.unmodified).second

pub invariant_of-self : goal.invariant_of-self
invariant_of-self c = rw c.push_first.ensures (serves _ _ _ _ _ _ c.self.view_is c.self.invariant c.requires.below c.requires.new c.requires.unserved c.requires.unkept c.requires.unmodified).holds

pub returns : goal.returns
returns c = ap (λ (z : FrameLists). page_lists z c.self.inside.modified (slice_set c.self.inside.pages.items c.args.item.frame c.args.item.page)) c.push_first.ensures ∙ (serves _ _ _ _ _ _ c.self.view_is c.self.invariant c.requires.below c.requires.new c.requires.unserved c.requires.unkept c.requires.unmodified).value
