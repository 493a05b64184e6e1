use Rattle.std.proofs.Common.{◌≡◌, sym, ◌∙◌}
use Rattle.std.specs.Prelude.{Some}
use Rattle.vax_machine.specs.Meaning.{engine}
use Rattle.vax_console.specs.Ends.{scene}
use Rattle.vax_console.specs.Transcript.{stepped}
use Rattle.vax_debug.specs.Pages.{is_parted, missed_by, pages_at, start_of_page}
use Rattle.vax_debug_replies.specs.Pages.{missed_line}
use Rattle.vax_console.proofs.Only.{only_then}
use Rattle.vax_debug_acts.proofs.Telling.{counts_then, reply_counts, reply_only, tells}
use Rattle.vax_debug_acts.proofs.Turning.{made_here, missed_here, room, stands, told_missed, told_parted, told_whole, turned_failed, turned_missed, turned_parted, turned_whole}
use Rattle.vax_debug_acts.proofs.attempts.turn.Goals as goal

pub returns-then-is_at_limit-clause-acts : goal.returns-then-is_at_limit-clause-acts
returns-then-is_at_limit-clause-acts g c = λ o s replies here.
    let v = scene (engine c.args.machine.now) (g.F.PageFile.contents c.args.file.now) (g.K.Sink.contents c.args.sink.now) in
    let w = scene (engine c.tell_plain_stop.new.machine) (g.F.PageFile.contents c.tell_plain_stop.new.file) (g.K.Sink.contents c.tell_plain_stop.new.sink) in
    stands c.tell_plain_stop.result c.args.setting.now.limits.now.turns c.args.setting.now.limits.now.steps c.args.setting.now.legend.now c.args.plan.now (pages_at v.machine) o s replies v w c.is_at_limit.result here c.is_at_limit.ensures.limit c.if-is_at_limit.true
    (c.tell_plain_stop.ensures.replies o s replies here)

pub returns-in-Ok-Missed-clause-acts : goal.returns-in-Ok-Missed-clause-acts
returns-in-Ok-Missed-clause-acts g c = λ o s replies here.
    let v = scene (engine c.args.machine.now) (g.F.PageFile.contents c.args.file.now) (g.K.Sink.contents c.args.sink.now) in
    let x = scene (engine c.attempt.new.machine) (g.F.PageFile.contents c.attempt.new.file) (g.K.Sink.contents c.attempt.new.sink) in
    let w = scene (engine c.attempt.new.machine) (g.F.PageFile.contents c.attempt.new.file) (g.K.Sink.contents c.tell_missed.new.sink) in
    let limit = c.args.setting.now.limits.now.steps in
    let a = c.in-Ok-Missed.ensures.attempts o s replies here (room o s replies v here (c.is_at_limit.ensures.room c.if-is_at_limit.false)) in
    let is : Some c.in-Ok-Missed.page ≡ missed_by (pages_at v.machine) s = told_missed c.in-Ok-Missed.page (missed_by (pages_at v.machine) s) (is_parted s) (sym c.in-Ok-Missed.field-0-is ∙ a.0) in
    turned_missed c.tell_missed.result c.in-Ok-Missed.page c.args.setting.now.limits.now.turns limit c.args.setting.now.legend.now c.args.plan.now (pages_at v.machine) o s replies v w c.is_at_limit.result here c.is_at_limit.ensures.limit c.if-is_at_limit.false is
    (tells c.tell_missed.result (g.K.Sink.faults c.attempt.new.sink) (g.K.Sink.faults c.tell_missed.new.sink) o s replies (missed_line c.args.setting.now.legend.now (start_of_page c.in-Ok-Missed.page)) x.machine x.file x.sink w.sink
    (missed_here c.in-Ok-Missed.page (missed_by (pages_at v.machine) s) o s replies x is a.1) c.tell_missed.ensures)

pub returns-in-Ok-Made-clause-acts : goal.returns-in-Ok-Made-clause-acts
returns-in-Ok-Made-clause-acts g c = λ o s replies here.
    let v = scene (engine c.args.machine.now) (g.F.PageFile.contents c.args.file.now) (g.K.Sink.contents c.args.sink.now) in
    let x = scene (engine c.attempt.new.machine) (g.F.PageFile.contents c.attempt.new.file) (g.K.Sink.contents c.attempt.new.sink) in
    let w = scene (engine c.tell_plain_stop-in-Ok-Made.new.machine) (g.F.PageFile.contents c.tell_plain_stop-in-Ok-Made.new.file) (g.K.Sink.contents c.tell_plain_stop-in-Ok-Made.new.sink) in
    let limit = c.args.setting.now.limits.now.steps in
    let a = c.in-Ok-Made.ensures.attempts o s replies here (room o s replies v here (c.is_at_limit.ensures.room c.if-is_at_limit.false)) in
    let is = told_whole (missed_by (pages_at v.machine) s) (is_parted s) (sym c.in-Ok-Made.field-0-is ∙ a.0) in
    turned_whole c.tell_plain_stop-in-Ok-Made.result c.args.setting.now.limits.now.turns limit c.args.setting.now.legend.now c.args.plan.now (pages_at v.machine) o s replies v w c.is_at_limit.result here c.is_at_limit.ensures.limit c.if-is_at_limit.false is.0 is.1
    (c.tell_plain_stop-in-Ok-Made.ensures.replies o (stepped s) replies (made_here (missed_by (pages_at v.machine) s) o s replies x is.0 a.1))

pub returns-in-Ok-Parted-clause-acts : goal.returns-in-Ok-Parted-clause-acts
returns-in-Ok-Parted-clause-acts g c = λ o s replies here.
    let v = scene (engine c.args.machine.now) (g.F.PageFile.contents c.args.file.now) (g.K.Sink.contents c.args.sink.now) in
    let x = scene (engine c.attempt.new.machine) (g.F.PageFile.contents c.attempt.new.file) (g.K.Sink.contents c.attempt.new.sink) in
    let w = scene (engine c.tell_parted_stop.new.machine) (g.F.PageFile.contents c.tell_parted_stop.new.file) (g.K.Sink.contents c.tell_parted_stop.new.sink) in
    let limit = c.args.setting.now.limits.now.steps in
    let a = c.in-Ok-Parted.ensures.attempts o s replies here (room o s replies v here (c.is_at_limit.ensures.room c.if-is_at_limit.false)) in
    let is = told_parted (missed_by (pages_at v.machine) s) (is_parted s) (sym c.in-Ok-Parted.field-0-is ∙ a.0) in
    turned_parted c.tell_parted_stop.result c.args.setting.now.limits.now.turns limit c.args.setting.now.legend.now c.args.plan.now (pages_at v.machine) o s replies v w c.is_at_limit.result here c.is_at_limit.ensures.limit c.if-is_at_limit.false is.0 is.1
    (c.tell_parted_stop.ensures.replies o (stepped s) replies (made_here (missed_by (pages_at v.machine) s) o s replies x is.0 a.1))

pub returns-in-Err-clause-acts : goal.returns-in-Err-clause-acts
returns-in-Err-clause-acts g c = λ o s replies here.
    let v = scene (engine c.args.machine.now) (g.F.PageFile.contents c.args.file.now) (g.K.Sink.contents c.args.sink.now) in
    let w = scene (engine c.attempt.new.machine) (g.F.PageFile.contents c.attempt.new.file) (g.K.Sink.contents c.attempt.new.sink) in
    let limit = c.args.setting.now.limits.now.steps in
    turned_failed c.in-Err.failure c.args.setting.now.limits.now.turns limit c.args.setting.now.legend.now c.args.plan.now (pages_at v.machine) o s replies v w c.is_at_limit.result here c.is_at_limit.ensures.limit c.if-is_at_limit.false
    (c.in-Err.ensures.attempts o s replies here (room o s replies v here (c.is_at_limit.ensures.room c.if-is_at_limit.false)))

pub returns-in-Ok-Missed-clause-counts : goal.returns-in-Ok-Missed-clause-counts
returns-in-Ok-Missed-clause-counts g c = counts_then c.tell_missed.result (g.F.PageFile.faults c.args.file.now) (g.F.PageFile.faults c.attempt.new.file) (g.F.PageFile.faults c.attempt.new.file) (g.K.Sink.faults c.args.sink.now) (g.K.Sink.faults c.attempt.new.sink) (g.K.Sink.faults c.tell_missed.new.sink) c.in-Ok-Missed.ensures.counts.0 c.in-Ok-Missed.ensures.counts.1 (reply_counts c.tell_missed.result (g.F.PageFile.faults c.attempt.new.file) (g.K.Sink.faults c.attempt.new.sink) (g.K.Sink.faults c.tell_missed.new.sink) (g.K.Sink.contents c.attempt.new.sink) (g.K.Sink.contents c.tell_missed.new.sink) (missed_line c.args.setting.now.legend.now (start_of_page c.in-Ok-Missed.page)) c.tell_missed.ensures)

pub returns-in-Ok-Made-clause-counts : goal.returns-in-Ok-Made-clause-counts
returns-in-Ok-Made-clause-counts g c = counts_then c.tell_plain_stop-in-Ok-Made.result (g.F.PageFile.faults c.args.file.now) (g.F.PageFile.faults c.attempt.new.file) (g.F.PageFile.faults c.tell_plain_stop-in-Ok-Made.new.file) (g.K.Sink.faults c.args.sink.now) (g.K.Sink.faults c.attempt.new.sink) (g.K.Sink.faults c.tell_plain_stop-in-Ok-Made.new.sink) c.in-Ok-Made.ensures.counts.0 c.in-Ok-Made.ensures.counts.1 c.tell_plain_stop-in-Ok-Made.ensures.counts

pub returns-in-Ok-Parted-clause-counts : goal.returns-in-Ok-Parted-clause-counts
returns-in-Ok-Parted-clause-counts g c = counts_then c.tell_parted_stop.result (g.F.PageFile.faults c.args.file.now) (g.F.PageFile.faults c.attempt.new.file) (g.F.PageFile.faults c.tell_parted_stop.new.file) (g.K.Sink.faults c.args.sink.now) (g.K.Sink.faults c.attempt.new.sink) (g.K.Sink.faults c.tell_parted_stop.new.sink) c.in-Ok-Parted.ensures.counts.0 c.in-Ok-Parted.ensures.counts.1 c.tell_parted_stop.ensures.counts

pub returns-in-Ok-Missed-clause-only : goal.returns-in-Ok-Missed-clause-only
returns-in-Ok-Missed-clause-only g c = only_then _ _ _ c.attempt.ensures.only (reply_only _ _ _ _ _ _ c.tell_missed.ensures)

pub returns-in-Ok-Made-clause-only : goal.returns-in-Ok-Made-clause-only
returns-in-Ok-Made-clause-only g c = only_then _ _ _ c.attempt.ensures.only c.tell_plain_stop-in-Ok-Made.ensures.only

pub returns-in-Ok-Parted-clause-only : goal.returns-in-Ok-Parted-clause-only
returns-in-Ok-Parted-clause-only g c = only_then _ _ _ c.attempt.ensures.only c.tell_parted_stop.ensures.only
