use Rattle.std.proofs.Common.{ap, rules}
use Rattle.std.specs.Prelude.{is_some}
use Rattle.vax_pager.proofs.Views.{held_buffer, paging_buffer, sound_buffer}
use Rattle.vax_pager.proofs.Walking.{walked_frame, walked_left}
use Rattle.vax_pager.proofs.store.Store.frame_by_walk.Goals as goal

pub returns-clause-sound : goal.returns-clause-sound
returns-clause-sound c = sound_buffer c.args.self.now c.frame_by_walk.new.self c.frame_by_walk.ensures.agrees c.requires.sound

pub returns-clause-paging : goal.returns-clause-paging
returns-clause-paging c = paging_buffer c.args.self.now c.frame_by_walk.new.self

pub returns-clause-held : goal.returns-clause-held
returns-clause-held c = held_buffer c.args.self.now c.frame_by_walk.new.self

pub returns-clause-frame : goal.returns-clause-frame
returns-clause-frame c =
    walked_frame c.args.self.now c.frame_by_walk.new.self c.args.addr c.args.n c.args.mode c.args.access _ c.ranges.addr.fits (search rules)
    (record { sound = c.requires.sound; agrees = c.frame_by_walk.ensures.agrees; frame = c.frame_by_walk.ensures.frame; entries = c.frame_by_walk.ensures.entries })

pub returns-clause-left : goal.returns-clause-left
returns-clause-left c = walked_left _ _ _ _ _ c.frame_by_walk.ensures.entries

pub returns-clause-missed : goal.returns-clause-missed
returns-clause-missed c = λ there. ap is_some (c.frame_by_walk.ensures.missed there)
