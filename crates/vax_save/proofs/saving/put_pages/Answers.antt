use Rattle.std.proofs.Common.{ap, ◌∙◌}
use Rattle.vax_outside.proofs.Growth.{on_err}
use Rattle.vax_flat.specs.Parts.{machine_at}
use Rattle.vax_machine.specs.Machine.{Keeping, keeping}
use Rattle.vax_machine.specs.Meaning.{engine}
use Rattle.vax_save.specs.Saved.{page_field}
use Rattle.vax_save.specs.Stream.{stream}
use Rattle.vax_save.proofs.SavingLaws.{extent_as, extents_cut, extents_next, kept_then}
use Rattle.vax_save.proofs.Streaming.{cut_more, put_more}
use Rattle.vax_save.proofs.saving.put_pages.Goals as goal

pub returns-in_err-put_extent-clause-cut : goal.returns-in_err-put_extent-clause-cut
returns-in_err-put_extent-clause-cut g c =
    let m = engine c.args.machine.now in
    let same = ap (λ (k : Keeping). k.areas) c.loop-i.invariant.kept.keeps in
    let x = c.extent_at-pages.result in
    on_err c.from_residual.result (λ place means.
    extents_cut (page_field (machine_at place).memory) (keeping m).areas c.loop-i.i x.first x.pages (stream (g.K.Sink.contents c.args.sink.now) c.args.held.now.items) (stream (g.K.Sink.contents c.loop-i.sink) c.loop-i.held.items) _
    (extent_as (keeping (engine c.loop-i.machine)).areas (keeping m).areas c.loop-i.i x.first x.pages same c.extent_at-pages.ensures.pages) (c.loop-i.invariant.leaves place means) (c.in_err-put_extent.ensures.cut place (c.loop-i.invariant.kept.means place means)))

pub returns-in_err-put_extent-clause-some_cut : goal.returns-in_err-put_extent-clause-some_cut
returns-in_err-put_extent-clause-some_cut g c =
    on_err c.from_residual.result (cut_more (stream (g.K.Sink.contents c.args.sink.now) c.args.held.now.items) (stream (g.K.Sink.contents c.loop-i.sink) c.loop-i.held.items) _ c.loop-i.invariant.some c.in_err-put_extent.ensures.some_cut)

pub loop-i-preserved : goal.loop-i-preserved
loop-i-preserved g c =
    let m = engine c.args.machine.now in
    let inv = c.loop-i.invariant in
    let same = ap (λ (k : Keeping). k.areas) inv.kept.keeps in
    let x = c.extent_at-pages.result in
    let s = stream (g.K.Sink.contents c.args.sink.now) c.args.held.now.items in
    let t = stream (g.K.Sink.contents c.loop-i.sink) c.loop-i.held.items in
    let u = stream (g.K.Sink.contents c.put_extent.new.sink) c.put_extent.new.held.items in
    record {
      kept = kept_then m (engine c.loop-i.machine) (engine c.put_extent.new.machine) (g.F.PageFile.contents c.args.file.now) (g.F.PageFile.contents c.loop-i.file) (g.F.PageFile.contents c.put_extent.new.file) inv.kept c.put_extent.ensures.kept;
      leaves = λ place means.
          extents_next (page_field (machine_at place).memory) (keeping m).areas c.loop-i.i x.first x.pages s t u
          (extent_as (keeping (engine c.loop-i.machine)).areas (keeping m).areas c.loop-i.i x.first x.pages same c.extent_at-pages.ensures.pages) (inv.leaves place means) (c.in_ok-put_extent.ensures.ok place (inv.kept.means place means));
      total = inv.total;
      some = put_more s t u inv.some c.in_ok-put_extent.ensures.some;
      unread = c.in_ok-put_extent.ensures.file.quiet ∙ inv.unread;
      quiet = c.in_ok-put_extent.ensures.sink.quiet ∙ inv.quiet;
    }
