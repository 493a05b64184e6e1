use Rattle.std.proofs.Common.{◌≡◌, ℕ, refl}
use Rattle.std.specs.Prelude.{Some, None}
use Rattle.vax_machine.specs.Meaning.{engine}
use Rattle.vax_console.specs.Ends.{scene}
use Rattle.vax_debug_acts.proofs.Telling.{counts_then, not_done, reply_counts, reply_only, tells, with_number, without_number}
use Rattle.vax_debug.specs.Values.{evaluated}
use Rattle.vax_debug_acts.specs.Acts.{no_number_line, register_act, register_put}
use Rattle.vax_console.proofs.Only.{only_none}
use Rattle.vax_debug_acts.proofs.deposits.deposit_into_register.Goals as goal

pub returns-in-Ok-Some-clause-acts : goal.returns-in-Ok-Some-clause-acts
returns-in-Ok-Some-clause-acts g c = λ o s replies here.
    let limit = c.args.setting.now.limits.now.steps in
    let turns = c.args.setting.now.limits.now.turns in
    let sink = g.K.Sink.contents c.args.sink.now in
    let here2 = c.evaluate.ensures.stays sink o s replies here in
    let w = scene (engine c.put_into_register.new.machine) (g.F.PageFile.contents c.evaluate.new.file) (g.K.Sink.contents c.put_into_register.new.sink) in
    let is : Some c.in-Ok-Some.value ≡ evaluated c.args.setting.now.legend.now c.args.given.now s.machine = (rw c.in-Ok-Some.field-0-is at c.in-Ok-Some.ensures.tells) sink o s replies here in
    with_number (no_number_line c.args.setting.now.legend.now c.args.given.now) c.put_into_register.result turns c.in-Ok-Some.value (evaluated c.args.setting.now.legend.now c.args.given.now s.machine) (λ (n : ℕ). register_put c.args.register n s) o s replies w is (c.put_into_register.ensures.acts c.args.setting.now.limits.now o s replies here2)

pub returns-in-Ok-None-clause-acts : goal.returns-in-Ok-None-clause-acts
returns-in-Ok-None-clause-acts g c = λ o s replies here.
    let limit = c.args.setting.now.limits.now.steps in
    let turns = c.args.setting.now.limits.now.turns in
    let sink = g.K.Sink.contents c.args.sink.now in
    let here2 = c.evaluate.ensures.stays sink o s replies here in
    let w = scene (engine c.evaluate.new.machine) (g.F.PageFile.contents c.evaluate.new.file) (g.K.Sink.contents c.tell_no_number.new.sink) in
    let is : None ≡ evaluated c.args.setting.now.legend.now c.args.given.now s.machine = (rw c.in-Ok-None.field-0-is at c.in-Ok-None.ensures.tells) sink o s replies here in
    without_number (no_number_line c.args.setting.now.legend.now c.args.given.now) c.tell_no_number.result turns (evaluated c.args.setting.now.legend.now c.args.given.now s.machine) (λ (n : ℕ). register_put c.args.register n s) o s replies w is
    (tells c.tell_no_number.result (g.K.Sink.faults c.args.sink.now) (g.K.Sink.faults c.tell_no_number.new.sink) o s replies (no_number_line c.args.setting.now.legend.now c.args.given.now) (engine c.evaluate.new.machine) (g.F.PageFile.contents c.evaluate.new.file) sink (g.K.Sink.contents c.tell_no_number.new.sink) here2 c.tell_no_number.ensures)

pub returns-in-Err-clause-acts : goal.returns-in-Err-clause-acts
returns-in-Err-clause-acts g c = λ o s replies here.
    let limit = c.args.setting.now.limits.now.steps in
    let turns = c.args.setting.now.limits.now.turns in
    let sink = g.K.Sink.contents c.args.sink.now in
    let here2 = c.evaluate.ensures.stays sink o s replies here in
    not_done turns (register_act c.args.setting.now.legend.now c.args.register c.args.given.now s) o s replies (scene (engine c.evaluate.new.machine) (g.F.PageFile.contents c.evaluate.new.file) (g.K.Sink.contents c.args.sink.now)) here2

pub returns-in-Ok-Some-clause-counts : goal.returns-in-Ok-Some-clause-counts
returns-in-Ok-Some-clause-counts g c = counts_then c.put_into_register.result (g.F.PageFile.faults c.args.file.now) (g.F.PageFile.faults c.evaluate.new.file) (g.F.PageFile.faults c.evaluate.new.file) (g.K.Sink.faults c.args.sink.now) (g.K.Sink.faults c.args.sink.now) (g.K.Sink.faults c.put_into_register.new.sink) c.in-Ok-Some.ensures.counts.quiet refl (c.put_into_register.ensures.counts)

pub returns-in-Ok-None-clause-counts : goal.returns-in-Ok-None-clause-counts
returns-in-Ok-None-clause-counts g c = counts_then c.tell_no_number.result (g.F.PageFile.faults c.args.file.now) (g.F.PageFile.faults c.evaluate.new.file) (g.F.PageFile.faults c.evaluate.new.file) (g.K.Sink.faults c.args.sink.now) (g.K.Sink.faults c.args.sink.now) (g.K.Sink.faults c.tell_no_number.new.sink) c.in-Ok-None.ensures.counts.quiet refl (reply_counts c.tell_no_number.result (g.F.PageFile.faults c.evaluate.new.file) (g.K.Sink.faults c.args.sink.now) (g.K.Sink.faults c.tell_no_number.new.sink) (g.K.Sink.contents c.args.sink.now) (g.K.Sink.contents c.tell_no_number.new.sink) (no_number_line c.args.setting.now.legend.now c.args.given.now) c.tell_no_number.ensures)

pub returns-in-Err-clause-counts : goal.returns-in-Err-clause-counts
returns-in-Err-clause-counts g c = (c.in-Err.ensures.counts.later, c.in-Err.ensures.counts.cause, refl)

pub returns-in-Ok-None-clause-only : goal.returns-in-Ok-None-clause-only
returns-in-Ok-None-clause-only g c = reply_only _ _ _ _ _ _ c.tell_no_number.ensures

pub returns-in-Err-clause-only : goal.returns-in-Err-clause-only
returns-in-Err-clause-only g c = only_none _
