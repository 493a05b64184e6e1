use Rattle.std.proofs.Common.{refl, arith}
use Rattle.vax_pager.proofs.Steps.{sound_taken, paging_taken}
use Rattle.vax_pager.proofs.Told.{held_limit, kept_inside, held_small, kept_away, more_pinned}
use Rattle.vax_pager.proofs.Moves.{kept_held}
use Rattle.vax_pager.proofs.store.Store.take_back.Goals as goal

pub set-requires-clause-inside : goal.set-requires-clause-inside
set-requires-clause-inside c = kept_inside 0 _ _ _ c.requires.sound c.requires.there

pub set-requires-clause-frame : goal.set-requires-clause-frame
set-requires-clause-frame c = held_small 0 _ _ _ c.requires.sound (kept_held 0 _ _ _ c.requires.sound c.requires.there)

pub take_back-requires-clause-below : goal.take_back-requires-clause-below
take_back-requires-clause-below c = held_limit 0 _ _ _ _ c.requires.sound (kept_held 0 _ _ _ c.requires.sound c.requires.there) c.requires.sound.limit

pub take_back-requires-clause-new : goal.take_back-requires-clause-new
take_back-requires-clause-new c = kept_away 0 _ _ _ c.requires.sound c.requires.there

pub overflow_add-self : goal.overflow_add-self
overflow_add-self c = omega (arith, more_pinned 0 _ c.requires.sound)

pub returns-clause-sound : goal.returns-clause-sound
returns-clause-sound c =
    sound_taken c.args.self.now c.args.page c.args.frame _ _ _ _ _ (record { walk = c.set.ensures.walked; left = c.set.ensures.kept })
    c.forget.ensures.entries c.take_back.ensures.moved c.take_back.ensures.fewer refl c.requires.there c.requires.sound

pub returns-clause-paging : goal.returns-clause-paging
returns-clause-paging c =
    paging_taken c.args.self.now c.args.page c.args.frame _ _ _ _ _ (record { walk = c.set.ensures.walked; left = c.set.ensures.kept })
    c.take_back.ensures.moved refl c.requires.there c.raised-self.ensures c.requires.sound
