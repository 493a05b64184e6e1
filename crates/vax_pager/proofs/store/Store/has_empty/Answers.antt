use Rattle.std.proofs.Common.{◌∙◌}
use Rattle.vax_pager.proofs.Told.{empty_is}
use Rattle.vax_pager.proofs.store.Store.has_empty.Goals as goal

pub returns : goal.returns
returns c = empty_is c.args.self.now _ (c.len.ensures ∙ c.args.self.now.frames.ok.0) c.requires.sound
