use Rattle.std.proofs.Common.{rules}
use Rattle.vax_pager.proofs.Views.{agrees_same, held_buffer, paging_buffer, sound_buffer}
use Rattle.vax_pager.proofs.Walking.{once_frame}
use Rattle.vax_pager.proofs.store.Store.frame_at_once.Goals as goal

pub returns-clause-sound : goal.returns-clause-sound
returns-clause-sound c = sound_buffer c.args.self.now c.frame_at_once.new.self (agrees_same c.args.self.now c.frame_at_once.new.self c.frame_at_once.ensures.entries c.requires.sound) c.requires.sound

pub returns-clause-paging : goal.returns-clause-paging
returns-clause-paging c = paging_buffer c.args.self.now c.frame_at_once.new.self

pub returns-clause-held : goal.returns-clause-held
returns-clause-held c = held_buffer c.args.self.now c.frame_at_once.new.self

pub returns-clause-frame : goal.returns-clause-frame
returns-clause-frame c = once_frame c.args.self.now c.frame_at_once.new.self c.args.addr c.args.n c.args.mode c.args.access _ c.ranges.addr.fits (search rules) c.frame_at_once.ensures.entries c.frame_at_once.ensures.frame c.requires.sound
