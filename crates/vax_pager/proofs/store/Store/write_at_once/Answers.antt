use Rattle.std.proofs.Common.{◌≡◌, length, arith, refl, ◌∙◌}
use Rattle.vax_space.specs.Reference.{page_of}
use Rattle.vax_undo.specs.Blocks.{low_bytes}
use Rattle.vax_undo.proofs.Numbers.{low-length}
use Rattle.vax_pager.specs.Paging.{view_of}
use Rattle.vax_pager.specs.Store.{paging}
use Rattle.vax_pager.proofs.Writes.{filled_only, filled_view, frame_size, number_run}
use Rattle.vax_pager.proofs.store.Store.write_at_once.Goals as goal

pub returns-in-Some-clause-stored : goal.returns-in-Some-clause-stored
returns-in-Some-clause-stored c = λ did.
    let size : length (low_bytes c.args.n c.args.value) ≡ c.args.n = low-length c.args.n c.args.value in
    filled_view (paging c.args.self.now) _ c.args.addr (low_bytes c.args.n c.args.value) c.put_number.ensures.paging c.ranges.addr.fits (omega (arith, size, c.in-Some.ensures.one_page)) (omega (arith, size, c.requires.some))
    (frame_size _ _ _ c.in-Some.ensures.held c.requires.sound) (c.in-Some.ensures.marked refl)
    ∙ number_run (view_of (paging c.args.self.now)) c.args.addr c.args.n c.args.value

pub returns-in-Some-clause-only : goal.returns-in-Some-clause-only
returns-in-Some-clause-only c = filled_only _ _ (page_of c.args.addr) _ c.put_number.ensures.paging (c.in-Some.ensures.marked refl) c.in-Some.ensures.resident
