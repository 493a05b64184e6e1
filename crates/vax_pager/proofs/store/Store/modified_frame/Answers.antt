use Rattle.std.proofs.Common.{ap, ◌∙◌}
use Rattle.vax_pager.specs.Frames.{dirty_frame}
use Rattle.vax_pager.proofs.Told.{modified_told, modified_frame_there, modified_frame_held, modified_frame_resident, modified_frame_room, modified_frame_bytes, modified_frame_writable}
use Rattle.vax_pager.proofs.store.Store.modified_frame.Goals as goal

pub returns-clause-none : goal.returns-clause-none
returns-clause-none c = modified_told c.args.self.now c.args.page _ (c.dirty_frame.ensures ∙ ap dirty_frame c.walk.ensures.value) c.requires.sound

pub returns-clause-there : goal.returns-clause-there
returns-clause-there c = modified_frame_there c.args.self.now c.args.page _ (c.dirty_frame.ensures ∙ ap dirty_frame c.walk.ensures.value) c.requires.sound

pub returns-clause-held : goal.returns-clause-held
returns-clause-held c = modified_frame_held c.args.self.now c.args.page _ (c.dirty_frame.ensures ∙ ap dirty_frame c.walk.ensures.value) c.requires.sound

pub returns-clause-resident : goal.returns-clause-resident
returns-clause-resident c = modified_frame_resident c.args.self.now c.args.page _ (c.dirty_frame.ensures ∙ ap dirty_frame c.walk.ensures.value) c.requires.sound

pub returns-clause-room : goal.returns-clause-room
returns-clause-room c = modified_frame_room c.args.self.now c.args.page _ (c.dirty_frame.ensures ∙ ap dirty_frame c.walk.ensures.value) c.requires.sound

pub returns-clause-bytes : goal.returns-clause-bytes
returns-clause-bytes c = modified_frame_bytes c.args.self.now c.args.page _ (c.dirty_frame.ensures ∙ ap dirty_frame c.walk.ensures.value) c.requires.sound

pub returns-clause-writable : goal.returns-clause-writable
returns-clause-writable c = modified_frame_writable c.args.self.now c.args.page _ (c.dirty_frame.ensures ∙ ap dirty_frame c.walk.ensures.value) c.requires.sound
