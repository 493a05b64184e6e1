use Rattle.std.proofs.Common.{refl, sym, ◌∙◌, ap}
use Rattle.std.specs.Prelude.{is_some}
use Rattle.vax_pager.proofs.Told.{block_is}
use Rattle.vax_pager.proofs.Effects.{flush_none, wrote_none, flush_one, frame_read, told_wrote, keeps_flush, not_both}
use Rattle.vax_pager.proofs.store.Store.flush.Goals as goal

pub returns-in-None-clause-answer : goal.returns-in-None-clause-answer
returns-in-None-clause-answer g c = sym (sym c.modified_frame.ensures.none ∙ ap is_some c.in-None.is)

pub returns-in-None-clause-ok : goal.returns-in-None-clause-ok
returns-in-None-clause-ok g c = sym (flush_none _ _ (sym c.modified_frame.ensures.none ∙ ap is_some c.in-None.is))

pub returns-in-None-clause-wrote : goal.returns-in-None-clause-wrote
returns-in-None-clause-wrote g c = sym (wrote_none _ _ _ (sym c.modified_frame.ensures.none ∙ ap is_some c.in-None.is))

pub block_of-block-requires : goal.block_of-block-requires
block_of-block-requires g c = c.in-Some.ensures.writable refl

pub returns-in-Ok-clause-ok : goal.returns-in-Ok-clause-ok
returns-in-Ok-clause-ok g c = c.mark_flushed.ensures.paging ∙ sym (flush_one _ _ (sym c.in-Some.ensures.none))

pub returns-in-Ok-clause-wrote : goal.returns-in-Ok-clause-wrote
returns-in-Ok-clause-wrote g c =
    let x = frame_read _ _ _ _ c.in-Some.ensures.room c.index.ensures c.in-Some.ensures.bytes in
    told_wrote _ _ _ _ _ _ (sym c.in-Some.ensures.none) (block_is _ _ _ c.block_of-block.ensures.value) x c.in-Ok.ensures.ok

pub returns-in-Ok-clause-untouched : goal.returns-in-Ok-clause-untouched
returns-in-Ok-clause-untouched g c = λ e. absurd (not_both _ (sym c.in-Some.ensures.none) e)

pub returns-in-Err-clause-untouched : goal.returns-in-Err-clause-untouched
returns-in-Err-clause-untouched g c = λ e. absurd (not_both _ (sym c.in-Some.ensures.none) e)

pub returns-in-Err-clause-needed : goal.returns-in-Err-clause-needed
returns-in-Err-clause-needed g c = (sym c.in-Some.ensures.none)

pub returns-in-Ok-clause-keeps : goal.returns-in-Ok-clause-keeps
returns-in-Ok-clause-keeps g c =
    let x = frame_read _ _ _ _ c.in-Some.ensures.room c.index.ensures c.in-Some.ensures.bytes in
    keeps_flush c.args.page _ _ _ _ _ _ c.mark_flushed.ensures.paging c.in-Ok.ensures.ok x (block_is _ _ _ c.block_of-block.ensures.value) (c.in-Some.ensures.resident refl)
