use Rattle.std.proofs.Common.{◌∙◌}
use Rattle.vax_lists.proofs.Moves.{kept-length}
use Rattle.vax_lists.proofs.lists.Lists.kept.Goals as goal

pub returns : goal.returns
returns c = c.second_len.ensures ∙ kept-length c.self.inside.held c.self.inside.modified c.self.inside.pages.items _ c.self.view_is
