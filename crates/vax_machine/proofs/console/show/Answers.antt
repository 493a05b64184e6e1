use Rattle.std.proofs.Common.{◌≡◌, ◌+◌, ◌-◌, ◌<◌, ap, arith, refl, subst, sym, ◌∙◌, List, ℕ, length}
use Rattle.std.specs.Prelude.{IfSome, is_some}
use Rattle.std.proofs.lemmas.List.{length-set}
use Rattle.vax_space.specs.declared.Area.{Area}
use Rattle.vax_space.specs.Areas.{area_of}
use Rattle.vax_space.specs.Reference.{byte_after, page_of}
use Rattle.vax_pager.specs.Meaning.{pages}
use Rattle.vax_pager.specs.Paging.{Paging, StandsWith}
use Rattle.vax_machine.specs.Console.{IsPageOf}
use Rattle.vax_machine.proofs.Bringing.{none_read, pages_fewer, pages_next, then_read}
use Rattle.vax_machine.proofs.Showing.{cell_shown, cell_there, from_next, has_as, none_from, none_shown, same_page, shown_next}
use Rattle.vax_machine.proofs.console.show.Goals as goal

pub loop-place-init : goal.loop-place-init
loop-place-init g c = record {
  same = refl;
  keeps = λ memory st. st;
  reads = refl;
  once = none_read _ _ _ refl;
  len = refl;
  none = none_shown _ _;
  bytes = λ memory st. none_from memory _;
  there = λ low. absurd (omega (arith, low));
  held = λ low. absurd (omega (arith, low));
  quiet = refl;
}

pub loop-place-preserved : goal.loop-place-preserved
loop-place-preserved g c =
    let s = pages c.args.pager.now in
    let place = c.loop-place.place in
    let here = byte_after c.args.addr place in
    let v = c.loop-place.invariant in
    let len = v.len in
    let back : place ≡ place + 1 - 1 = omega arith in
    let test = c.loop-place-test.true in
    let low : place < length c.loop-place.cells = omega (arith, len, test) in
    let there : is_some c.in_ok-page.page ≡ is_some (area_of s.areas (page_of here)) =
    c.in_ok-page.ensures.none (λ no.
    let k = c.is_first.ensures.other no in
    v.there k.0
    ∙ (ap (λ (n : ℕ). is_some (area_of s.areas n)) (sym (same_page c.args.addr place k.0 k.1))
    ∙ ap (λ (z : Paging). is_some (area_of z.areas (page_of here))) (sym v.same)))
    ∙ ap (λ (z : Paging). is_some (area_of z.areas (page_of here))) v.same in
    let held : (memory : List Area) → StandsWith s (g.F.PageFile.contents c.args.file.now) memory → IfSome c.in_ok-page.page (IsPageOf memory (page_of here)) = λ memory st.
    c.in_ok-page.ensures.bytes memory (v.keeps memory st) (λ no.
    let k = c.is_first.ensures.other no in
    subst (λ (n : ℕ). IfSome c.loop-place.page (IsPageOf memory n)) (sym (same_page c.args.addr place k.0 k.1)) (v.held k.0 memory st)) in
    record {
      same = c.in_ok-page.ensures.same ∙ v.same;
      keeps = λ memory st. c.in_ok-page.ensures.keeps memory (v.keeps memory st);
      reads = c.in_ok-page.ensures.reads ∙ v.reads;
      once = then_read _ _ _ _ _ _ (pages_next c.args.addr place c.is_first.result c.is_first.ensures.first) v.once c.in_ok-page.ensures.once;
      len = length-set c.loop-place.cells place c.cell.result ∙ v.len;
      none = shown_next s.areas c.args.addr place c.loop-place.cells c.cell.result low c.ranges.addr.fits (ap is_some c.cell.ensures ∙ (cell_there c.in_ok-page.page here ∙ there)) v.none;
      bytes = λ memory st.
          from_next memory c.args.addr place c.loop-place.cells c.cell.result low c.ranges.addr.fits
          (c.cell.ensures ∙ cell_shown c.in_ok-page.page memory here (there ∙ sym (has_as s _ memory (page_of here) st)) (held memory st)) (v.bytes memory st);
      there = λ some. subst (λ (n : ℕ). is_some c.in_ok-page.page ≡ is_some (area_of s.areas (page_of (byte_after c.args.addr n)))) back there;
      held = λ some memory st. subst (λ (n : ℕ). IfSome c.in_ok-page.page (IsPageOf memory (page_of (byte_after c.args.addr n)))) back (held memory st);
      quiet = c.in_ok-page.ensures.counts.quiet ∙ v.quiet;
    }

pub returns-clause-once : goal.returns-clause-once
returns-clause-once g c =
    let len = c.loop-place.invariant.len in
    let test = c.loop-place-test.false in
    then_read _ 0 _ _ _ _ (let low = pages_fewer c.args.addr c.loop-place.place (length c.args.cells.now) (omega (arith, len, test)) in omega (arith, low)) c.loop-place.invariant.once (none_read 0 _ _ refl)

pub returns-in_err-page-clause-once : goal.returns-in_err-page-clause-once
returns-in_err-page-clause-once g c =
    let place = c.loop-place.place in
    let len = c.loop-place.invariant.len in
    let test = c.loop-place-test.true in
    let next = pages_next c.args.addr place c.is_first.result c.is_first.ensures.first in
    let low = pages_fewer c.args.addr (place + 1) (length c.args.cells.now) (omega (arith, len, test)) in
    then_read _ _ _ _ _ _ (omega (arith, next, low)) c.loop-place.invariant.once c.in_err-page.ensures.once
