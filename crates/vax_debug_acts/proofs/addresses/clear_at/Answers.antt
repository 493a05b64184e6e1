use Rattle.std.proofs.Common.{◌≡◌, ℕ, refl}
use Rattle.std.specs.Prelude.{Some, None}
use Rattle.vax_machine.specs.Meaning.{engine}
use Rattle.vax_console.specs.Ends.{scene}
use Rattle.vax_debug_acts.proofs.Telling.{breaks_at, breaks_same, counts_then, done, not_done, reply_counts, reply_only, tells, with_value, without_value}
use Rattle.vax_debug.specs.Values.{evaluated}
use Rattle.vax_debug_acts.specs.Acts.{clear_act, cleared_at, done_line, no_value_line, only_told}
use Rattle.vax_console.proofs.Only.{only_none}
use Rattle.vax_debug_acts.proofs.addresses.clear_at.Goals as goal

pub returns-in-Ok-Some-clause-acts : goal.returns-in-Ok-Some-clause-acts
returns-in-Ok-Some-clause-acts g c = λ o s replies here.
    let limit = c.args.setting.now.limits.now.steps in
    let turns = c.args.setting.now.limits.now.turns in
    let sink = g.K.Sink.contents c.args.sink.now in
    let here2 = c.evaluate.ensures.stays sink o s replies here in
    let w = scene (engine c.evaluate.new.machine) (g.F.PageFile.contents c.evaluate.new.file) (g.K.Sink.contents c.remove.new.sink) in
    let is : Some c.in-Ok-Some.address ≡ evaluated c.args.setting.now.legend.now c.args.at.now s.machine = (rw c.in-Ok-Some.field-0-is at c.in-Ok-Some.ensures.tells) sink o s replies here in
    with_value c.remove.result turns c.in-Ok-Some.address (evaluated c.args.setting.now.legend.now c.args.at.now s.machine) (λ (a : ℕ). only_told s done_line) o s replies w is (done c.remove.result turns 0 o s s replies (done_line) w (tells c.remove.result (g.K.Sink.faults c.args.sink.now) (g.K.Sink.faults c.remove.new.sink) o s replies (done_line) (engine c.evaluate.new.machine) (g.F.PageFile.contents c.evaluate.new.file) sink (g.K.Sink.contents c.remove.new.sink) here2 c.remove.ensures.replies))

pub returns-in-Ok-None-clause-acts : goal.returns-in-Ok-None-clause-acts
returns-in-Ok-None-clause-acts g c = λ o s replies here.
    let limit = c.args.setting.now.limits.now.steps in
    let turns = c.args.setting.now.limits.now.turns in
    let sink = g.K.Sink.contents c.args.sink.now in
    let here2 = c.evaluate.ensures.stays sink o s replies here in
    let w = scene (engine c.evaluate.new.machine) (g.F.PageFile.contents c.evaluate.new.file) (g.K.Sink.contents c.tell_no_value.new.sink) in
    let is : None ≡ evaluated c.args.setting.now.legend.now c.args.at.now s.machine = (rw c.in-Ok-None.field-0-is at c.in-Ok-None.ensures.tells) sink o s replies here in
    without_value c.tell_no_value.result turns (evaluated c.args.setting.now.legend.now c.args.at.now s.machine) (λ (a : ℕ). only_told s done_line) o s replies w is
    (tells c.tell_no_value.result (g.K.Sink.faults c.args.sink.now) (g.K.Sink.faults c.tell_no_value.new.sink) o s replies no_value_line (engine c.evaluate.new.machine) (g.F.PageFile.contents c.evaluate.new.file) sink (g.K.Sink.contents c.tell_no_value.new.sink) here2 c.tell_no_value.ensures)

pub returns-in-Err-clause-acts : goal.returns-in-Err-clause-acts
returns-in-Err-clause-acts g c = λ o s replies here.
    let limit = c.args.setting.now.limits.now.steps in
    let turns = c.args.setting.now.limits.now.turns in
    let sink = g.K.Sink.contents c.args.sink.now in
    let here2 = c.evaluate.ensures.stays sink o s replies here in
    not_done turns (clear_act c.args.setting.now.legend.now c.args.at.now s) o s replies (scene (engine c.evaluate.new.machine) (g.F.PageFile.contents c.evaluate.new.file) (g.K.Sink.contents c.args.sink.now)) here2

pub returns-in-Ok-Some-clause-counts : goal.returns-in-Ok-Some-clause-counts
returns-in-Ok-Some-clause-counts g c = counts_then c.remove.result (g.F.PageFile.faults c.args.file.now) (g.F.PageFile.faults c.evaluate.new.file) (g.F.PageFile.faults c.evaluate.new.file) (g.K.Sink.faults c.args.sink.now) (g.K.Sink.faults c.args.sink.now) (g.K.Sink.faults c.remove.new.sink) c.in-Ok-Some.ensures.counts.quiet refl (reply_counts c.remove.result (g.F.PageFile.faults c.evaluate.new.file) (g.K.Sink.faults c.args.sink.now) (g.K.Sink.faults c.remove.new.sink) (g.K.Sink.contents c.args.sink.now) (g.K.Sink.contents c.remove.new.sink) (done_line) c.remove.ensures.replies)

pub returns-in-Ok-None-clause-counts : goal.returns-in-Ok-None-clause-counts
returns-in-Ok-None-clause-counts g c = counts_then c.tell_no_value.result (g.F.PageFile.faults c.args.file.now) (g.F.PageFile.faults c.evaluate.new.file) (g.F.PageFile.faults c.evaluate.new.file) (g.K.Sink.faults c.args.sink.now) (g.K.Sink.faults c.args.sink.now) (g.K.Sink.faults c.tell_no_value.new.sink) c.in-Ok-None.ensures.counts.quiet refl (reply_counts c.tell_no_value.result (g.F.PageFile.faults c.evaluate.new.file) (g.K.Sink.faults c.args.sink.now) (g.K.Sink.faults c.tell_no_value.new.sink) (g.K.Sink.contents c.args.sink.now) (g.K.Sink.contents c.tell_no_value.new.sink) no_value_line c.tell_no_value.ensures)

pub returns-in-Err-clause-counts : goal.returns-in-Err-clause-counts
returns-in-Err-clause-counts g c = (c.in-Err.ensures.counts.later, c.in-Err.ensures.counts.cause, refl)

pub returns-in-Ok-Some-clause-breaks : goal.returns-in-Ok-Some-clause-breaks
returns-in-Ok-Some-clause-breaks g c = λ o s replies here.
    let sink = g.K.Sink.contents c.args.sink.now in
    let is : Some c.in-Ok-Some.address ≡ evaluated c.args.setting.now.legend.now c.args.at.now s.machine = (rw c.in-Ok-Some.field-0-is at c.in-Ok-Some.ensures.tells) sink o s replies here in
    breaks_at c.remove.result c.in-Ok-Some.address (evaluated c.args.setting.now.legend.now c.args.at.now s.machine) c.args.plan.now c.remove.new.plan (cleared_at c.args.plan.now) is c.remove.ensures.plan

pub returns-in-Ok-None-clause-breaks : goal.returns-in-Ok-None-clause-breaks
returns-in-Ok-None-clause-breaks g c = λ o s replies here.
    let sink = g.K.Sink.contents c.args.sink.now in
    let is : None ≡ evaluated c.args.setting.now.legend.now c.args.at.now s.machine = (rw c.in-Ok-None.field-0-is at c.in-Ok-None.ensures.tells) sink o s replies here in
    breaks_same c.tell_no_value.result (evaluated c.args.setting.now.legend.now c.args.at.now s.machine) c.args.plan.now (cleared_at c.args.plan.now) is

pub returns-in-Ok-Some-clause-only : goal.returns-in-Ok-Some-clause-only
returns-in-Ok-Some-clause-only g c = reply_only _ _ _ _ _ _ c.remove.ensures.replies

pub returns-in-Ok-None-clause-only : goal.returns-in-Ok-None-clause-only
returns-in-Ok-None-clause-only g c = reply_only _ _ _ _ _ _ c.tell_no_value.ensures

pub returns-in-Err-clause-only : goal.returns-in-Err-clause-only
returns-in-Err-clause-only g c = only_none _
