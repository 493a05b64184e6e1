use Rattle.std.proofs.Common.{◌∙◌, sym, rules}
use Rattle.vax_pager.proofs.Told.{held_limit}
use Rattle.vax_pager.proofs.Writable.{block_in_space}
use Rattle.vax_pager.proofs.Writes.{held_touched, marked_resident, order_there, paging_touched, sound_touched, touched_none, unmarked}
use Rattle.vax_pager.proofs.store.Store.touch.Goals as goal

pub returns-then-is_some-clause-paging : goal.returns-then-is_some-clause-paging
returns-then-is_some-clause-paging c = touched_none _ _ (sym c.modified_frame.ensures.none ∙ (search rules))

pub mark-requires : goal.mark-requires
mark-requires c = record { resident = marked_resident _ _ c.requires.sound c.requires.resident }

pub touch-requires-clause-below : goal.touch-requires-clause-below
touch-requires-clause-below c = held_limit 0 _ _ _ _ c.requires.sound c.requires.held c.requires.sound.limit

pub touch-requires-clause-there : goal.touch-requires-clause-there
touch-requires-clause-there c = order_there _ _ _ c.requires.held c.requires.resident c.requires.sound

pub touch-requires-clause-new : goal.touch-requires-clause-new
touch-requires-clause-new c = unmarked _ _ c.requires.sound (sym c.modified_frame.ensures.none ∙ (search rules))

pub returns-clause-sound : goal.returns-clause-sound
returns-clause-sound c =
    sound_touched c.args.self.now c.args.page c.args.frame _ _ _ (record { walk = c.mark.ensures.walked; left = c.mark.ensures.kept })
    c.forget.ensures.entries c.touch.ensures c.requires.held c.requires.resident (sym c.modified_frame.ensures.none ∙ (search rules)) (block_in_space c.args.self.now c.args.page c.requires.writable) c.requires.sound

pub returns-clause-paging : goal.returns-clause-paging
returns-clause-paging c =
    paging_touched c.args.self.now c.args.page c.args.frame _ _ _ (record { walk = c.mark.ensures.walked; left = c.mark.ensures.kept })
    c.touch.ensures c.requires.resident (sym c.modified_frame.ensures.none ∙ (search rules)) c.requires.sound

pub returns-clause-held : goal.returns-clause-held
returns-clause-held c =
    held_touched c.args.self.now c.args.page _ _ _ (record { walk = c.mark.ensures.walked; left = c.mark.ensures.kept }) c.requires.resident c.requires.sound
