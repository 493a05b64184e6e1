use Rattle.std.proofs.Common.{Ok, Option, ◌≡◌, length, arith, refl, sym, ap, ◌∙◌}
use Rattle.vax_space.specs.Reference.{page_of}
use Rattle.vax_flat.specs.declared.Stop.{Stop}
use Rattle.vax_flat.specs.Memory.{number}
use Rattle.vax_flat.specs.Port.{loaded_by, unless_cut, with_number, with_run}
use Rattle.vax_undo.specs.Blocks.{low_bytes}
use Rattle.vax_undo.proofs.Numbers.{low-length}
use Rattle.vax_pager.specs.Paging.{Paging, view_of}
use Rattle.vax_pager.specs.Steps.{touched}
use Rattle.vax_pager.specs.Store.{paging}
use Rattle.vax_pager.proofs.Writes.{filled_listed, filled_only, filled_view, frame_size, modified_same, number_run, only_from, order_same}
use Rattle.vax_pager.proofs.store.Store.write_by_walk.Goals as goal

pub returns-in-Some-clause-answer : goal.returns-in-Some-clause-answer
returns-in-Some-clause-answer c =
    let view = view_of (paging c.args.self.now) in
    ap (λ x. Ok x) (c.exchange.ensures.number ∙ ap (λ (z : Paging). number (view_of z).byte c.args.addr c.args.n) c.in-Some.ensures.paging)
    ∙ sym (ap (λ (s : Option Stop). loaded_by s (number view.byte c.args.addr c.args.n)) c.in-Some.ensures.frame.free)

pub returns-in-Some-clause-stored : goal.returns-in-Some-clause-stored
returns-in-Some-clause-stored c =
    let e = c.in-Some.ensures.paging in
    let size : length (low_bytes c.args.n c.args.value) ≡ c.args.n = low-length c.args.n c.args.value in
    filled_view (paging c.frame_by_walk.new.self) _ c.args.addr (low_bytes c.args.n c.args.value) c.exchange.ensures.paging c.ranges.addr.fits (omega (arith, size, c.in-Some.ensures.frame.one_page)) (omega (arith, size, c.requires.some))
    (frame_size _ _ _ c.in-Some.ensures.frame.held c.in-Some.ensures.sound) (modified_same _ _ _ e (c.in-Some.ensures.frame.marked refl))
    ∙ ap (λ (z : Paging). with_run (view_of z) c.args.addr (low_bytes c.args.n c.args.value)) e
    ∙ number_run (view_of (paging c.args.self.now)) c.args.addr c.args.n c.args.value
    ∙ sym (ap (λ (s : Option Stop). unless_cut s (view_of (paging c.args.self.now)) (with_number (view_of (paging c.args.self.now)) c.args.addr c.args.n c.args.value)) c.in-Some.ensures.frame.free)

pub returns-in-Some-clause-listed : goal.returns-in-Some-clause-listed
returns-in-Some-clause-listed c =
    let e = c.in-Some.ensures.paging in
    filled_listed _ _ c.args.addr c.args.n _ c.exchange.ensures.paging (modified_same _ _ _ e (c.in-Some.ensures.frame.marked refl)) c.ranges.addr.fits c.in-Some.ensures.frame.one_page c.requires.some
    ∙ ap (λ (z : Paging). touched z.modified c.args.addr c.args.n) e

pub returns-in-Some-clause-only : goal.returns-in-Some-clause-only
returns-in-Some-clause-only c =
    let e = c.in-Some.ensures.paging in
    only_from _ _ _ e (filled_only _ _ (page_of c.args.addr) _ c.exchange.ensures.paging (modified_same _ _ _ e (c.in-Some.ensures.frame.marked refl)) (order_same _ _ _ e c.in-Some.ensures.frame.resident))
