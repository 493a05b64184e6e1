use Rattle.std.proofs.Common.{◌∙◌}
use Rattle.vax_outside.proofs.Growth.{on_err}
use Rattle.vax_flat.specs.Parts.{machine_at}
use Rattle.vax_machine.specs.Meaning.{engine}
use Rattle.vax_save.specs.Saved.{page_field}
use Rattle.vax_save.specs.Stream.{stream}
use Rattle.vax_save.proofs.SavingLaws.{kept_then, pages_cut, pages_next}
use Rattle.vax_save.proofs.Streaming.{cut_more, put_more}
use Rattle.vax_save.proofs.saving.put_extent.Goals as goal

pub loop-count-preserved : goal.loop-count-preserved
loop-count-preserved g c = record {
  kept = kept_then (engine c.args.machine.now) (engine c.loop-count.machine) (engine c.put_page.new.machine) (g.F.PageFile.contents c.args.file.now) (g.F.PageFile.contents c.loop-count.file) (g.F.PageFile.contents c.put_page.new.file) c.loop-count.invariant.kept c.put_page.ensures.kept;
  leaves = λ place means.
      pages_next (page_field (machine_at place).memory) c.args.extent.first c.args.extent.pages c.loop-count.count (stream (g.K.Sink.contents c.args.sink.now) c.args.held.now.items) (stream (g.K.Sink.contents c.loop-count.sink) c.loop-count.held.items) (stream (g.K.Sink.contents c.put_page.new.sink) c.put_page.new.held.items)
      c.loop-count-test.true (c.loop-count.invariant.leaves place means) (c.in_ok-put_page.ensures.ok place (c.loop-count.invariant.kept.means place means));
  some = put_more (stream (g.K.Sink.contents c.args.sink.now) c.args.held.now.items) (stream (g.K.Sink.contents c.loop-count.sink) c.loop-count.held.items) (stream (g.K.Sink.contents c.put_page.new.sink) c.put_page.new.held.items) c.loop-count.invariant.some c.in_ok-put_page.ensures.some;
  unread = c.in_ok-put_page.ensures.file.quiet ∙ c.loop-count.invariant.unread;
  quiet = c.in_ok-put_page.ensures.sink.quiet ∙ c.loop-count.invariant.quiet;
}

pub returns-in_err-put_page-clause-cut : goal.returns-in_err-put_page-clause-cut
returns-in_err-put_page-clause-cut g c =
    on_err c.from_residual.result (λ place means.
    pages_cut (page_field (machine_at place).memory) c.args.extent.first c.args.extent.pages c.loop-count.count (stream (g.K.Sink.contents c.args.sink.now) c.args.held.now.items) (stream (g.K.Sink.contents c.loop-count.sink) c.loop-count.held.items) _
    c.loop-count-test.true (c.loop-count.invariant.leaves place means) (c.in_err-put_page.ensures.cut place (c.loop-count.invariant.kept.means place means)))

pub returns-in_err-put_page-clause-some_cut : goal.returns-in_err-put_page-clause-some_cut
returns-in_err-put_page-clause-some_cut g c =
    on_err c.from_residual.result (cut_more (stream (g.K.Sink.contents c.args.sink.now) c.args.held.now.items) (stream (g.K.Sink.contents c.loop-count.sink) c.loop-count.held.items) _ c.loop-count.invariant.some c.in_err-put_page.ensures.some_cut)
