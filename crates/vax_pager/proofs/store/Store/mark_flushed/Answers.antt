use Rattle.vax_pager.proofs.Steps.{sound_flushed, paging_flushed}
use Rattle.vax_pager.proofs.Told.{modified_inside, held_small}
use Rattle.vax_pager.proofs.Moves.{modified_held}
use Rattle.vax_pager.proofs.store.Store.mark_flushed.Goals as goal

pub set-requires-clause-inside : goal.set-requires-clause-inside
set-requires-clause-inside c = modified_inside 0 _ _ _ c.requires.sound c.requires.there

pub set-requires-clause-frame : goal.set-requires-clause-frame
set-requires-clause-frame c = held_small 0 _ _ _ c.requires.sound (modified_held 0 _ _ _ c.requires.sound c.requires.there)

pub returns-clause-sound : goal.returns-clause-sound
returns-clause-sound c =
    sound_flushed c.args.self.now c.args.page c.args.frame _ _ _ _ _ (record { walk = c.set.ensures.walked; left = c.set.ensures.kept })
    c.forget.ensures.entries c.clean.ensures c.requires.there c.requires.sound

pub returns-clause-paging : goal.returns-clause-paging
returns-clause-paging c =
    paging_flushed c.args.self.now c.args.page c.args.frame c.args.block _ _ _ _ _ (record { walk = c.set.ensures.walked; left = c.set.ensures.kept })
    c.clean.ensures c.set-2.ensures c.requires.there c.requires.block c.raised-self.ensures c.requires.sound
