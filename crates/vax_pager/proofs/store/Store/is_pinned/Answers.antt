use Rattle.std.proofs.Common.{sym}
use Rattle.vax_pager.proofs.Told.{absent_unpinned, was_pinned}
use Rattle.vax_pager.proofs.store.Store.is_pinned.Goals as goal

pub returns-then-not-is_resident : goal.returns-then-not-is_resident
returns-then-not-is_resident c = sym (absent_unpinned c.args.self.now c.args.page c.requires.sound (sym c.if-not-is_resident.ensures))

pub is_among_last-requires-clause-few : goal.is_among_last-requires-clause-few
is_among_last-requires-clause-few c = c.requires.sound.pins

pub returns : goal.returns
returns c = was_pinned c.args.self.now c.args.page _ c.is_among_last.ensures
