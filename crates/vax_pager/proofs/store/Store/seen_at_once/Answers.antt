use Rattle.std.proofs.Common.{refl, rules}
use Rattle.vax_pager.proofs.Walking.{once_frame}
use Rattle.vax_pager.proofs.store.Store.seen_at_once.Goals as goal

pub returns : goal.returns
returns c = once_frame c.args.self.now c.args.self.now.buffer c.args.addr c.args.n c.args.mode c.args.access _ c.ranges.addr.fits (search rules) refl c.seen_at_once.ensures.frame c.requires.sound
