use Rattle.std.proofs.Common.{ap, refl, sym, true, ◌∙◌}
use Rattle.std.specs.Prelude.{◌&&◌, ◌==◌, nat_le, nat_lt, slice_index}
use Rattle.std.specs.List.{list_any}
use Rattle.vax_outside.proofs.Counting.{counts_still, counts_then}
use Rattle.vax_machine.specs.Meaning.{engine}
use Rattle.vax_machine.specs.Run.{system_of}
use Rattle.vax_machine.proofs.Outputs.{then_wrote, wrote_nothing}
use Rattle.vax_watch.specs.Plans.{Asked}
use Rattle.vax_watch.specs.Tracing.{stage_of, stopped_by}
use Rattle.vax_watch.proofs.Counted.{fine_stop}
use Rattle.vax_watch.proofs.Stopping.{is_due, stops_between}
use Rattle.vax_watch.proofs.steps.trace.Goals as goal

pub loop-end-init : goal.loop-end-init
loop-end-init g c = record { asked = refl; stands = λ t old f h. h; only = wrote_nothing true _; quiet = refl; written = refl }

pub returns-in-Some-clause-makes : goal.returns-in-Some-clause-makes
returns-in-Some-clause-makes g c = λ t old f h.
    let v = c.loop-end.invariant in
    let m = engine c.loop-end.machine in
    let s = stage_of (system_of m (g.F.PageFile.contents c.loop-end.file) (g.K.Sink.contents c.loop-end.sink)) c.loop-end.notes c.loop-end.plan in
    let breaks = f.same_breaks ∙ sym (ap (λ (z : Asked). z.breaks) v.asked) in
    let limits = f.same_limits in
    stops_between t old s f.begun (v.stands t old f h) c.in-Some.end
    ((λ i. stopped_by m.ended (nat_le (limits i).steps m.steps) (nat_lt 0 m.steps && list_any (λ a. a == slice_index m.cpu.core.regs 15) (breaks i))) ∙ (sym c.stopped.ensures.why ∙ c.in-Some.is))

pub returns-in-Some-clause-counts : goal.returns-in-Some-clause-counts
returns-in-Some-clause-counts g c =
    let v = c.loop-end.invariant in
    let fine = fine_stop _ _ _ c.in-Some.end (sym c.stopped.ensures.why ∙ c.in-Some.is) in
    record { file = counts_still fine.0 v.quiet; sink = counts_still fine.1 v.written }

pub loop-end-preserved : goal.loop-end-preserved
loop-end-preserved g c =
    let v = c.loop-end.invariant in
    let m = engine c.loop-end.machine in
    let s = stage_of (system_of m (g.F.PageFile.contents c.loop-end.file) (g.K.Sink.contents c.loop-end.sink)) c.loop-end.notes c.loop-end.plan in
    record {
      asked = c.trace_step.ensures.asked ∙ v.asked;
      stands = λ t old f h.
          let breaks = f.same_breaks ∙ sym (ap (λ (z : Asked). z.breaks) v.asked) in
          let limits = f.same_limits in
          let due = is_due t old s f.begun (v.stands t old f h) ((λ i. stopped_by m.ended (nat_le (limits i).steps m.steps) (nat_lt 0 m.steps && list_any (λ a. a == slice_index m.cpu.core.regs 15) (breaks i))) ∙ (sym c.stopped.ensures.why ∙ c.in_default.is)) in
          c.in-Ok.ensures.makes t old (record { begun = f.begun; same_limits = limits; same_rules = f.same_rules; same_breaks = breaks; same_texts = f.same_texts ∙ sym (ap (λ (z : Asked). z.texts) v.asked) }) (v.stands t old f h) due;
      only = then_wrote true _ _ _ v.only c.trace_step.ensures.only;
      quiet = c.in-Ok.ensures.counts.file.quiet ∙ v.quiet;
      written = c.in-Ok.ensures.counts.sink.quiet ∙ v.written;
    }

pub returns-in-Err-clause-makes : goal.returns-in-Err-clause-makes
returns-in-Err-clause-makes g c = λ t old f h.
    let v = c.loop-end.invariant in
    let m = engine c.loop-end.machine in
    let s = stage_of (system_of m (g.F.PageFile.contents c.loop-end.file) (g.K.Sink.contents c.loop-end.sink)) c.loop-end.notes c.loop-end.plan in
    let breaks = f.same_breaks ∙ sym (ap (λ (z : Asked). z.breaks) v.asked) in
    let limits = f.same_limits in
    let due = is_due t old s f.begun (v.stands t old f h) ((λ i. stopped_by m.ended (nat_le (limits i).steps m.steps) (nat_lt 0 m.steps && list_any (λ a. a == slice_index m.cpu.core.regs 15) (breaks i))) ∙ (sym c.stopped.ensures.why ∙ c.in_default.is)) in
    c.in-Err.ensures.makes t old (record { begun = f.begun; same_limits = limits; same_rules = f.same_rules; same_breaks = breaks; same_texts = f.same_texts ∙ sym (ap (λ (z : Asked). z.texts) v.asked) }) (v.stands t old f h) due

pub returns-in-Err-clause-counts : goal.returns-in-Err-clause-counts
returns-in-Err-clause-counts g c =
    let v = c.loop-end.invariant in
    record { file = counts_then refl v.quiet c.in-Err.ensures.counts.file; sink = counts_then refl v.written c.in-Err.ensures.counts.sink }

pub returns-in-Some-clause-only : goal.returns-in-Some-clause-only
returns-in-Some-clause-only g c = c.loop-end.invariant.only

pub returns-in-Err-clause-only : goal.returns-in-Err-clause-only
returns-in-Err-clause-only g c = then_wrote true _ _ _ c.loop-end.invariant.only c.trace_step.ensures.only
