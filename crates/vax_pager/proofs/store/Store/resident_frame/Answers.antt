use Rattle.std.proofs.Common.{sym, ◌∙◌}
use Rattle.std.proofs.lemmas.Bool.{false≢true}
use Rattle.vax_pager.proofs.Moves.{order_held, held_room, frame_means}
use Rattle.vax_pager.proofs.Told.{told_resident, told_order}
use Rattle.vax_pager.proofs.store.Store.resident_frame.Goals as goal

pub unreachable-requires : goal.unreachable-requires
unreachable-requires c = false≢true (told_resident c.args.self.now c.args.page _ (sym c.in-Absent.is ∙ c.walk.ensures.value) c.requires.sound ∙ c.requires.resident)

pub unreachable-requires-in-Outside : goal.unreachable-requires-in-Outside
unreachable-requires-in-Outside c = false≢true (told_resident c.args.self.now c.args.page _ (sym c.in-Outside.is ∙ c.walk.ensures.value) c.requires.sound ∙ c.requires.resident)

pub returns-clause-order : goal.returns-clause-order
returns-clause-order c = (told_order c.args.self.now c.args.page _ _ _ (sym c.in-Resident.is ∙ c.walk.ensures.value) c.requires.sound)

pub returns-clause-held : goal.returns-clause-held
returns-clause-held c = order_held 0 c.args.self.now c.args.page _ c.requires.sound (told_order c.args.self.now c.args.page _ _ _ (sym c.in-Resident.is ∙ c.walk.ensures.value) c.requires.sound)

pub returns-clause-room : goal.returns-clause-room
returns-clause-room c = held_room 0 c.args.self.now c.args.page _ c.requires.sound (order_held 0 c.args.self.now c.args.page _ c.requires.sound (told_order c.args.self.now c.args.page _ _ _ (sym c.in-Resident.is ∙ c.walk.ensures.value) c.requires.sound))

pub returns-clause-bytes : goal.returns-clause-bytes
returns-clause-bytes c = frame_means c.args.self.now c.args.page _ (order_held 0 c.args.self.now c.args.page _ c.requires.sound (told_order c.args.self.now c.args.page _ _ _ (sym c.in-Resident.is ∙ c.walk.ensures.value) c.requires.sound))
