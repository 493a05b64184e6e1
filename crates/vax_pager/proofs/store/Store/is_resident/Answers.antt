use Rattle.std.proofs.Common.{sym, ◌∙◌}
use Rattle.vax_pager.proofs.Told.{told_resident}
use Rattle.vax_pager.proofs.store.Store.is_resident.Goals as goal

pub returns-in-Resident : goal.returns-in-Resident
returns-in-Resident c = told_resident c.args.self.now c.args.page _ (sym c.in-Resident.is ∙ c.walk.ensures.value) c.requires.sound

pub returns-in-Absent : goal.returns-in-Absent
returns-in-Absent c = told_resident c.args.self.now c.args.page _ (sym c.in-Absent.is ∙ c.walk.ensures.value) c.requires.sound

pub returns-in-Outside : goal.returns-in-Outside
returns-in-Outside c = told_resident c.args.self.now c.args.page _ (sym c.in-Outside.is ∙ c.walk.ensures.value) c.requires.sound
