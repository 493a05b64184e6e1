use Rattle.std.proofs.Common.{ap, ◌∙◌}
use Rattle.vax_table.specs.Mapping.{frame_of}
use Rattle.vax_pager.proofs.Views.{entry_there, frame_listed, frame_there, held_buffer, paging_buffer, sound_buffer}
use Rattle.vax_pager.proofs.store.Store.frame_of.Goals as goal

pub returns-clause-sound : goal.returns-clause-sound
returns-clause-sound c = sound_buffer c.args.self.now _ c.walk.ensures.agrees c.requires.sound

pub returns-clause-paging : goal.returns-clause-paging
returns-clause-paging c = paging_buffer c.args.self.now _

pub returns-clause-resident : goal.returns-clause-resident
returns-clause-resident c = frame_listed c.args.self.now c.args.page _ (c.frame_of.ensures ∙ ap frame_of c.walk.ensures.value) c.requires.sound

pub returns-clause-held : goal.returns-clause-held
returns-clause-held c = frame_there c.args.self.now _ c.args.page _ (c.frame_of.ensures ∙ ap frame_of c.walk.ensures.value)

pub returns-clause-frames : goal.returns-clause-frames
returns-clause-frames c = held_buffer c.args.self.now _

pub returns-clause-entry : goal.returns-clause-entry
returns-clause-entry c = rw c.walk.ensures.entries (entry_there _ c.args.page _)
