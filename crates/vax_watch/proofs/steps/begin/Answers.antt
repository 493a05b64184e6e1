use Rattle.std.proofs.Common.{ap, refl, ◌∙◌, sym, true}
use Rattle.vax_outside.proofs.Counting.{counts_still, counts_then}
use Rattle.vax_machine.specs.Meaning.{engine}
use Rattle.vax_machine.specs.Run.{system_of}
use Rattle.vax_machine.proofs.Outputs.{wrote_nothing}
use Rattle.vax_watch.specs.Plans.{Asked}
use Rattle.vax_watch.specs.Tracing.{stage_of}
use Rattle.vax_watch.proofs.Stopping.{stands_first, unseen}
use Rattle.vax_watch.proofs.steps.begin.Goals as goal

pub returns-in-Ok-clause-begins : goal.returns-in-Ok-clause-begins
returns-in-Ok-clause-begins g c = λ t old f h.
    let s = stage_of (system_of (engine c.args.machine.now) (g.F.PageFile.contents c.args.file.now) (g.K.Sink.contents c.args.sink.now)) c.args.notes.now c.args.plan.now in
    c.trace.ensures.makes t old (record { begun = f.begun; same_limits = f.same_limits; same_rules = f.same_rules; same_breaks = f.same_breaks ∙ sym (ap (λ (z : Asked). z.breaks) c.look.ensures.asked); same_texts = f.same_texts ∙ sym (ap (λ (z : Asked). z.texts) c.look.ensures.asked) })
    (stands_first t old s f.begun h (engine c.look.new.machine) (g.F.PageFile.contents c.look.new.file) c.look.ensures.looked c.look.new.self.seen.items c.in-Ok.ensures.seen)

pub returns-in-Ok-clause-counts : goal.returns-in-Ok-clause-counts
returns-in-Ok-clause-counts g c = record { file = counts_then refl c.in-Ok.ensures.counts.quiet c.trace.ensures.counts.file; sink = c.trace.ensures.counts.sink }

pub returns-in-Err-clause-begins : goal.returns-in-Err-clause-begins
returns-in-Err-clause-begins g c = λ t old f h.
    let s = stage_of (system_of (engine c.args.machine.now) (g.F.PageFile.contents c.args.file.now) (g.K.Sink.contents c.args.sink.now)) c.args.notes.now c.args.plan.now in
    unseen t old s f.begun h (engine c.look.new.machine) (g.F.PageFile.contents c.look.new.file) c.look.ensures.looked c.look.new.self.seen.items

pub returns-in-Err-clause-counts : goal.returns-in-Err-clause-counts
returns-in-Err-clause-counts g c = record { file = c.in-Err.ensures.counts; sink = counts_still refl refl }

pub returns-in-Err-clause-only : goal.returns-in-Err-clause-only
returns-in-Err-clause-only g c = wrote_nothing true _
