use Rattle.std.proofs.Common.{refl, arith, rules}
use Rattle.vax_pager.proofs.Steps.{sound_brought, paging_brought}
use Rattle.vax_pager.proofs.Told.{area_inside_of, free_small, free_limit, absent_order, more_pinned}
use Rattle.vax_pager.proofs.Moves.{free_kept, free_modified, free_order}
use Rattle.vax_pager.proofs.store.Store.bring.Goals as goal

pub set-requires-clause-inside : goal.set-requires-clause-inside
set-requires-clause-inside c = area_inside_of 1 _ _ c.requires.sound c.requires.within

pub set-requires-clause-frame : goal.set-requires-clause-frame
set-requires-clause-frame c = free_small 1 _ _ c.requires.sound c.requires.free

pub index_mut-requires : goal.index_mut-requires
index_mut-requires c = omega (arith, c.requires.free.below, c.requires.sound.used)

pub serve-requires-clause-below : goal.serve-requires-clause-below
serve-requires-clause-below c = free_limit 1 _ _ _ c.requires.sound c.requires.free c.requires.sound.limit

pub serve-requires-clause-new : goal.serve-requires-clause-new
serve-requires-clause-new c = absent_order 1 _ _ c.requires.sound c.requires.absent

pub serve-requires-clause-unserved : goal.serve-requires-clause-unserved
serve-requires-clause-unserved c = free_order 1 _ _ c.requires.sound c.requires.free

pub serve-requires-clause-unkept : goal.serve-requires-clause-unkept
serve-requires-clause-unkept c = free_kept 1 _ _ c.requires.sound c.requires.free

pub serve-requires-clause-unmodified : goal.serve-requires-clause-unmodified
serve-requires-clause-unmodified c = free_modified 1 _ _ c.requires.sound c.requires.free

pub overflow_add-self : goal.overflow_add-self
overflow_add-self c = omega (arith, more_pinned 1 _ c.requires.sound)

pub returns-clause-sound : goal.returns-clause-sound
returns-clause-sound c =
    sound_brought c.args.self.now c.args.page c.args.frame _ _ c.args.bytes.now _ _ _ _ (record { walk = c.set.ensures.walked; left = c.set.ensures.kept })
    c.forget.ensures.entries refl c.serve.ensures refl c.requires.within c.requires.absent c.requires.unkept c.requires.free (search rules) (search rules) c.requires.sound

pub returns-clause-paging : goal.returns-clause-paging
returns-clause-paging c =
    paging_brought c.args.self.now c.args.page c.args.frame _ _ c.args.bytes.now _ _ _ _ (record { walk = c.set.ensures.walked; left = c.set.ensures.kept })
    refl c.serve.ensures refl c.requires.within c.requires.free c.raised-self.ensures c.requires.sound
