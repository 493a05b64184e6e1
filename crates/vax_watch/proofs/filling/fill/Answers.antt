use Rattle.std.proofs.Common.{◌≡◌, ◌+◌, ◌-◌, ◌<◌, arith, refl, subst, ◌∙◌, ℕ, length}
use Rattle.std.proofs.lemmas.List.{length-set}
use Rattle.vax_space.specs.Reference.{byte_after}
use Rattle.vax_flat.specs.Parts.{Place, machine_at}
use Rattle.vax_machine.specs.Machine.{Means}
use Rattle.vax_machine.specs.Meaning.{engine}
use Rattle.vax_machine.proofs.Showing.{cell_shown, from_next, none_from}
use Rattle.vax_watch.specs.Filling.{IsPageAt}
use Rattle.vax_watch.proofs.Filled.{page_same}
use Rattle.vax_watch.proofs.Watching.{looked_then}
use Rattle.vax_watch.proofs.filling.fill.Goals as goal

pub loop-place-init : goal.loop-place-init
loop-place-init g c = record {
  looked = record { cpu = refl; keeps = refl; same = refl; means = λ place m. m; reads = refl };
  len = refl;
  bytes = λ place m. none_from (machine_at place).memory _;
  held = λ low. absurd (omega (arith, low));
  quiet = refl;
}

pub loop-place-preserved : goal.loop-place-preserved
loop-place-preserved g c =
    let m = engine c.args.machine.now in
    let file = g.F.PageFile.contents c.args.file.now in
    let n = c.loop-place.place in
    let here = byte_after c.args.address n in
    let v = c.loop-place.invariant in
    let len = v.len in
    let back : n ≡ n + 1 - 1 = omega arith in
    let test = c.loop-place-test.true in
    let low : n < length c.loop-place.cells = omega (arith, len, test) in
    let held : (place : Place) → Means m file place → IsPageAt (machine_at place).memory here c.turn_page.new.page = λ place means.
    c.in_ok-turn_page.ensures.turns place (v.looked.means place means) (λ no.
    let k = c.is_first.ensures.other no in
    page_same (machine_at place).memory c.args.address n c.loop-place.page k.0 k.1 (v.held k.0 place means)) in
    record {
      looked = looked_then m (engine c.loop-place.machine) (engine c.turn_page.new.machine) file (g.F.PageFile.contents c.loop-place.file) (g.F.PageFile.contents c.turn_page.new.file) v.looked c.turn_page.ensures.looked;
      len = length-set c.loop-place.cells n c.cell.result ∙ v.len;
      bytes = λ place means.
          let at = held place means in
          from_next (machine_at place).memory c.args.address n c.loop-place.cells c.cell.result low c.ranges.address.fits
          (c.cell.ensures ∙ cell_shown c.turn_page.new.page (machine_at place).memory here at.there at.bytes) (v.bytes place means);
      held = λ some place means. subst (λ (k : ℕ). IsPageAt (machine_at place).memory (byte_after c.args.address k) c.turn_page.new.page) back (held place means);
      quiet = c.in_ok-turn_page.ensures.counts.quiet ∙ v.quiet;
    }
