use Rattle.std.proofs.Common.{Option, length, sym, ap, ◌∙◌}
use Rattle.vax_space.specs.declared.Access.TheVariants.{Write}
use Rattle.vax_space.specs.Reference.{page_of}
use Rattle.vax_flat.specs.declared.Stop.{Stop}
use Rattle.vax_flat.specs.Port.{unless_cut, with_run}
use Rattle.vax_undo.proofs.Accesses.{fine, gone}
use Rattle.vax_pager.specs.Steps.{touched_page}
use Rattle.vax_pager.specs.Paging.{Paging, view_of}
use Rattle.vax_pager.specs.Store.{paging}
use Rattle.vax_pager.proofs.Writable.{writable_at}
use Rattle.vax_pager.proofs.Writes.{frame_size, written_listed, written_only, written_view}
use Rattle.vax_pager.proofs.store.Store.write_run.Goals as goal

pub touch-requires-clause-writable : goal.touch-requires-clause-writable
touch-requires-clause-writable c = rw c.in-Some.ensures.paging (writable_at _ c.args.addr (length c.args.from.now) c.args.mode c.ranges.addr.fits c.requires.some c.in_default.ensures)

pub returns-in-Some-clause-answer : goal.returns-in-Some-clause-answer
returns-in-Some-clause-answer c = sym (fine (view_of (paging c.args.self.now)) c.args.addr (length c.args.from.now) c.args.mode Write c.in_default.ensures c.ranges.addr.fits c.requires.one_page (sym c.in-Some.ensures.resident))

pub returns-in-Some-clause-stored : goal.returns-in-Some-clause-stored
returns-in-Some-clause-stored c =
    let e = c.touch.ensures.paging ∙ ap (touched_page (page_of c.args.addr)) c.in-Some.ensures.paging in
    written_view (paging c.args.self.now) _ _ c.args.addr c.args.from.now e c.put_run.ensures.paging c.ranges.addr.fits c.requires.one_page c.requires.some
    (ap (λ (z : Paging). length (z.frame (page_of c.args.addr))) (sym c.in-Some.ensures.paging) ∙ frame_size _ _ _ c.in-Some.ensures.held c.in-Some.ensures.sound)
    ∙ sym (ap (λ (s : Option Stop). unless_cut s (view_of (paging c.args.self.now)) (with_run (view_of (paging c.args.self.now)) c.args.addr c.args.from.now)) (fine (view_of (paging c.args.self.now)) c.args.addr (length c.args.from.now) c.args.mode Write c.in_default.ensures c.ranges.addr.fits c.requires.one_page (sym c.in-Some.ensures.resident)))

pub returns-in-Some-clause-listed : goal.returns-in-Some-clause-listed
returns-in-Some-clause-listed c =
    let e = c.touch.ensures.paging ∙ ap (touched_page (page_of c.args.addr)) c.in-Some.ensures.paging in
    written_listed (paging c.args.self.now) _ _ c.args.addr (length c.args.from.now) _ e c.put_run.ensures.paging c.ranges.addr.fits c.requires.one_page c.requires.some

pub returns-in-Some-clause-only : goal.returns-in-Some-clause-only
returns-in-Some-clause-only c =
    let e = c.touch.ensures.paging ∙ ap (touched_page (page_of c.args.addr)) c.in-Some.ensures.paging in
    written_only (paging c.args.self.now) _ _ (page_of c.args.addr) _ e c.put_run.ensures.paging (sym c.in-Some.ensures.resident)

pub returns-in-None-clause-answer : goal.returns-in-None-clause-answer
returns-in-None-clause-answer c = sym (gone (view_of (paging c.args.self.now)) c.args.addr (length c.args.from.now) c.args.mode Write c.in_default.ensures c.requires.some (sym c.in-None.ensures.resident))

pub returns-in-None-clause-stored : goal.returns-in-None-clause-stored
returns-in-None-clause-stored c = ap (λ (z : Paging). view_of z) c.in-None.ensures.paging ∙ sym (ap (λ (s : Option Stop). unless_cut s (view_of (paging c.args.self.now)) (with_run (view_of (paging c.args.self.now)) c.args.addr c.args.from.now)) (gone (view_of (paging c.args.self.now)) c.args.addr (length c.args.from.now) c.args.mode Write c.in_default.ensures c.requires.some (sym c.in-None.ensures.resident)))
