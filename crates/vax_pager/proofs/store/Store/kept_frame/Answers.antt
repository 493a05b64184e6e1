use Rattle.vax_pager.proofs.Told.{kept_told, kept_frame_held, kept_frame_room, kept_frame_bytes}
use Rattle.vax_pager.proofs.store.Store.kept_frame.Goals as goal

pub returns-clause-none : goal.returns-clause-none
returns-clause-none c = kept_told c.args.self.now c.args.page _ c.kept_frame.ensures c.requires.sound

pub returns-clause-held : goal.returns-clause-held
returns-clause-held c = kept_frame_held c.args.self.now c.args.page _ c.kept_frame.ensures c.requires.sound

pub returns-clause-room : goal.returns-clause-room
returns-clause-room c = kept_frame_room c.args.self.now c.args.page _ c.kept_frame.ensures c.requires.sound

pub returns-clause-bytes : goal.returns-clause-bytes
returns-clause-bytes c = kept_frame_bytes c.args.self.now c.args.page _ c.kept_frame.ensures c.requires.sound
