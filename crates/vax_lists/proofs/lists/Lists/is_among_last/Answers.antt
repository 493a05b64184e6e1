use Rattle.std.proofs.Common.{◌∙◌}
use Rattle.vax_lists.proofs.Moves.{is_last, order-length}
use Rattle.vax_lists.proofs.lists.Lists.is_among_last.Goals as goal

pub is_among_last-requires : goal.is_among_last-requires
is_among_last-requires c = record { few = rw (order-length c.self.inside.held c.self.inside.modified c.self.inside.pages.items _ c.self.view_is) c.requires.few }

pub returns : goal.returns
returns c = c.is_among_last.ensures ∙ is_last _ _ _ c.args.item.page c.args.item.frame c.args.count _ c.self.view_is c.self.invariant c.requires.there
