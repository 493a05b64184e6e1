use Rattle.vax_pager.proofs.Steps.{sound_forgotten, paging_forgotten, free_forgotten}
use Rattle.vax_pager.proofs.Told.{kept_inside}
use Rattle.vax_pager.proofs.store.Store.forget.Goals as goal

pub clear-requires : goal.clear-requires
clear-requires c = record { inside = kept_inside 0 _ _ _ c.requires.sound c.requires.there }

pub returns-clause-sound : goal.returns-clause-sound
returns-clause-sound c =
    sound_forgotten c.args.self.now c.args.page c.args.frame _ _ _ (record { walk = c.clear.ensures.walked; left = c.clear.ensures.kept })
    c.forget.ensures.entries c.forget-2.ensures.kept c.forget-2.ensures.fewer c.requires.there c.requires.sound

pub returns-clause-paging : goal.returns-clause-paging
returns-clause-paging c =
    paging_forgotten c.args.self.now c.args.page _ _ _ (record { walk = c.clear.ensures.walked; left = c.clear.ensures.kept }) c.forget-2.ensures.kept

pub returns-clause-free : goal.returns-clause-free
returns-clause-free c =
    free_forgotten c.args.self.now c.args.page c.args.frame _ _ _ (record { walk = c.clear.ensures.walked; left = c.clear.ensures.kept }) c.requires.there c.requires.sound
