use Rattle.std.proofs.Common.{Bool, sym, ap, ◌∙◌, rules}
use Rattle.vax_pager.specs.Store.{lowered_if}
use Rattle.vax_pager.proofs.Steps.{sound_released, paging_released}
use Rattle.vax_pager.proofs.Told.{held_limit, some_pinned, unkept, was_pinned}
use Rattle.vax_pager.proofs.Moves.{resident_is}
use Rattle.vax_pager.proofs.store.Store.release.Goals as goal

pub is_among_last-was_pinned-requires-clause-few : goal.is_among_last-was_pinned-requires-clause-few
is_among_last-was_pinned-requires-clause-few c = c.requires.sound.pins

pub keep-requires : goal.keep-requires
keep-requires c = record { resident = sym (resident_is 0 c.args.self.now c.args.evicted c.requires.sound) ∙ c.requires.resident }

pub keep-requires-2-clause-below : goal.keep-requires-2-clause-below
keep-requires-2-clause-below c = held_limit 0 _ _ _ _ c.requires.sound c.resident_frame-frame.ensures.held c.requires.sound.limit

pub keep-requires-2-clause-new : goal.keep-requires-2-clause-new
keep-requires-2-clause-new c = unkept 0 _ _ c.requires.sound c.requires.resident

pub lowered_if-self-requires : goal.lowered_if-self-requires
lowered_if-self-requires c = record { some = λ e. some_pinned c.args.self.now c.args.evicted c.requires.sound (sym (was_pinned c.args.self.now c.args.evicted _ c.is_among_last-was_pinned.ensures) ∙ e) }

pub returns-clause-sound : goal.returns-clause-sound
returns-clause-sound c =
    sound_released c.args.self.now c.args.evicted c.resident_frame-frame.result _ _ _ _ _ _ (record { walk = c.keep.ensures.walked; left = c.keep.ensures.kept })
    c.forget.ensures.entries c.keep-2.ensures.moved c.keep-2.ensures.fewer
    (c.lowered_if-self.ensures ∙ ap (λ (b : Bool). lowered_if b c.args.self.now.pinned) (was_pinned c.args.self.now c.args.evicted _ c.is_among_last-was_pinned.ensures))
    c.resident_frame-frame.ensures.order c.requires.unmodified c.requires.sound

pub returns-clause-paging : goal.returns-clause-paging
returns-clause-paging c =
    let pinned = was_pinned c.args.self.now c.args.evicted _ c.is_among_last-was_pinned.ensures in
    paging_released c.args.self.now c.args.evicted c.resident_frame-frame.result _ _ _ _ _ _ (record { walk = c.keep.ensures.walked; left = c.keep.ensures.kept })
    c.keep-2.ensures.moved c.keep-2.ensures.fewer
    (c.lowered_if-self.ensures ∙ ap (λ (b : Bool). lowered_if b c.args.self.now.pinned) pinned)
    c.resident_frame-frame.ensures.order c.raised-self.ensures (search rules) c.requires.sound
