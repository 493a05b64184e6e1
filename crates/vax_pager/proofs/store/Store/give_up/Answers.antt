use Rattle.vax_pager.proofs.Steps.{sound_given, paging_given, free_given}
use Rattle.vax_pager.proofs.Told.{resident_inside}
use Rattle.vax_pager.proofs.store.Store.give_up.Goals as goal

pub clear-requires : goal.clear-requires
clear-requires c = record { inside = resident_inside 0 _ _ c.requires.sound c.requires.resident }

pub returns-clause-sound : goal.returns-clause-sound
returns-clause-sound c =
    sound_given c.args.self.now c.args.page c.resident_frame-frame.result _ _ _ _ (record { walk = c.clear.ensures.walked; left = c.clear.ensures.kept })
    c.forget.ensures.entries c.give_up.ensures.order c.give_up.ensures.fewer c.resident_frame-frame.ensures.order c.requires.unmodified c.requires.unpinned c.requires.sound

pub returns-clause-paging : goal.returns-clause-paging
returns-clause-paging c =
    paging_given c.args.self.now c.args.page _ _ _ _ (record { walk = c.clear.ensures.walked; left = c.clear.ensures.kept }) c.give_up.ensures.order c.requires.unpinned c.raised-self.ensures c.requires.sound

pub returns-clause-free : goal.returns-clause-free
returns-clause-free c =
    free_given c.args.self.now c.args.page c.resident_frame-frame.result _ _ _ _ (record { walk = c.clear.ensures.walked; left = c.clear.ensures.kept }) c.resident_frame-frame.ensures.order c.requires.sound
