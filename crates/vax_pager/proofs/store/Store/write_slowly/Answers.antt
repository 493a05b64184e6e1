use Rattle.std.proofs.Common.{Ok, Option, ◌≡◌, ◌-◌, ◌%◌, length, arith, sym, ap, ◌∙◌}
use Rattle.vax_space.specs.declared.Access.TheVariants.{Write}
use Rattle.vax_space.specs.Reference.{page_of}
use Rattle.vax_flat.specs.declared.Stop.{Stop}
use Rattle.vax_flat.specs.Memory.{number}
use Rattle.vax_flat.specs.Port.{loaded_by, unless_cut, with_number}
use Rattle.vax_undo.specs.Blocks.{low_bytes}
use Rattle.vax_undo.proofs.Accesses.{fine, gone}
use Rattle.vax_undo.proofs.Numbers.{low-length}
use Rattle.vax_pager.specs.Steps.{touched_page}
use Rattle.vax_pager.specs.Paging.{Paging, view_of}
use Rattle.vax_pager.specs.Store.{paging}
use Rattle.vax_pager.proofs.Writable.{writable_at, writable_next}
use Rattle.vax_pager.proofs.Writes.{frame_size, number_run, written_listed, written_only, written_view}
use Rattle.vax_pager.proofs.store.Store.write_slowly.Goals as goal

pub touch-requires-clause-writable : goal.touch-requires-clause-writable
touch-requires-clause-writable c = rw c.in-Some.ensures.paging (writable_at _ c.args.addr c.args.n c.args.mode c.ranges.addr.fits c.requires.some c.in_default.ensures)

pub returns-in-Some-clause-answer : goal.returns-in-Some-clause-answer
returns-in-Some-clause-answer c =
    let view = view_of (paging c.args.self.now) in
    ap (λ x. Ok x) (c.number_in-old.ensures ∙ ap (λ (z : Paging). number (view_of z).byte c.args.addr c.args.n) c.in-Some.ensures.paging)
    ∙ sym (ap (λ (s : Option Stop). loaded_by s (number view.byte c.args.addr c.args.n)) (fine (view_of (paging c.args.self.now)) c.args.addr c.args.n c.args.mode Write c.in_default.ensures c.ranges.addr.fits c.if-addr-n-gt-PAGE_BYTES.false (sym c.in-Some.ensures.resident)))

pub returns-in-Some-clause-stored : goal.returns-in-Some-clause-stored
returns-in-Some-clause-stored c =
    let e = c.touch.ensures.paging ∙ ap (touched_page (page_of c.args.addr)) c.in-Some.ensures.paging in
    let size : length (low_bytes c.args.n c.args.value) ≡ c.args.n = low-length c.args.n c.args.value in
    written_view (paging c.args.self.now) _ _ c.args.addr (low_bytes c.args.n c.args.value) e c.put_number.ensures.paging c.ranges.addr.fits (omega (arith, size, c.if-addr-n-gt-PAGE_BYTES.false)) (omega (arith, size, c.requires.some))
    (ap (λ (z : Paging). length (z.frame (page_of c.args.addr))) (sym c.in-Some.ensures.paging) ∙ frame_size _ _ _ c.in-Some.ensures.held c.in-Some.ensures.sound)
    ∙ number_run (view_of (paging c.args.self.now)) c.args.addr c.args.n c.args.value
    ∙ sym (ap (λ (s : Option Stop). unless_cut s (view_of (paging c.args.self.now)) (with_number (view_of (paging c.args.self.now)) c.args.addr c.args.n c.args.value)) (fine (view_of (paging c.args.self.now)) c.args.addr c.args.n c.args.mode Write c.in_default.ensures c.ranges.addr.fits c.if-addr-n-gt-PAGE_BYTES.false (sym c.in-Some.ensures.resident)))

pub returns-in-Some-clause-listed : goal.returns-in-Some-clause-listed
returns-in-Some-clause-listed c =
    let e = c.touch.ensures.paging ∙ ap (touched_page (page_of c.args.addr)) c.in-Some.ensures.paging in
    written_listed (paging c.args.self.now) _ _ c.args.addr c.args.n _ e c.put_number.ensures.paging c.ranges.addr.fits c.if-addr-n-gt-PAGE_BYTES.false c.requires.some

pub returns-in-Some-clause-only : goal.returns-in-Some-clause-only
returns-in-Some-clause-only c =
    let e = c.touch.ensures.paging ∙ ap (touched_page (page_of c.args.addr)) c.in-Some.ensures.paging in
    written_only (paging c.args.self.now) _ _ (page_of c.args.addr) _ e c.put_number.ensures.paging (sym c.in-Some.ensures.resident)

pub returns-in-None-clause-answer : goal.returns-in-None-clause-answer
returns-in-None-clause-answer c =
    let view = view_of (paging c.args.self.now) in
    sym (ap (λ (s : Option Stop). loaded_by s (number view.byte c.args.addr c.args.n)) (gone view c.args.addr c.args.n c.args.mode Write c.in_default.ensures c.requires.some (sym c.in-None.ensures.resident)))

pub returns-in-None-clause-stored : goal.returns-in-None-clause-stored
returns-in-None-clause-stored c = ap (λ (z : Paging). view_of z) c.in-None.ensures.paging ∙ sym (ap (λ (s : Option Stop). unless_cut s (view_of (paging c.args.self.now)) (with_number (view_of (paging c.args.self.now)) c.args.addr c.args.n c.args.value)) (gone (view_of (paging c.args.self.now)) c.args.addr c.args.n c.args.mode Write c.in_default.ensures c.requires.some (sym c.in-None.ensures.resident)))

pub write_apart-requires-clause-low : goal.write_apart-requires-clause-low
write_apart-requires-clause-low c = writable_at _ c.args.addr c.args.n c.args.mode c.ranges.addr.fits c.requires.some c.in_default.ensures

pub write_apart-requires-clause-high : goal.write_apart-requires-clause-high
write_apart-requires-clause-high c = writable_next _ c.args.addr c.args.n c.args.mode (512 - c.args.addr % 512) c.ranges.addr.fits (omega (arith, c.if-addr-n-gt-PAGE_BYTES.true)) c.in_default.ensures
