use Rattle.std.proofs.Common.{◌≡◌, ℕ, refl}
use Rattle.vax_machine.specs.Meaning.{engine}
use Rattle.vax_console.specs.Ends.{scene}
use Rattle.vax_debug_acts.proofs.Telling.{counts_then, done, in_no_place, in_place, not_done, outside, placed_at, placed_outside, placed_same, reply_counts, reply_only, tells, watched_is}
use Rattle.vax_debug.specs.Places.{located}
use Rattle.vax_debug.specs.declared.places.Place.TheVariants.{Inside, Outside, Unknown}
use Rattle.vax_debug_acts.specs.Acts.{no_value_line, only_told, outside_line, watch, watch_act, watch_reply, watched_at}
use Rattle.vax_console.proofs.Only.{only_none}
use Rattle.vax_debug_acts.proofs.addresses.watch.Goals as goal

pub returns-in-Ok-Inside-clause-acts : goal.returns-in-Ok-Inside-clause-acts
returns-in-Ok-Inside-clause-acts g c = λ o s replies here.
    let limit = c.args.setting.now.limits.now.steps in
    let turns = c.args.setting.now.limits.now.turns in
    let sink = g.K.Sink.contents c.args.sink.now in
    let here2 = c.locate.ensures.stays sink o s replies here in
    let w = scene (engine c.locate.new.machine) (g.F.PageFile.contents c.locate.new.file) (g.K.Sink.contents c.add_watch.new.sink) in
    let is : Inside c.in-Ok-Inside.address ≡ located c.args.setting.now.legend.now c.args.at.now.from s.machine = (rw c.in-Ok-Inside.field-0-is at c.in-Ok-Inside.ensures.tells) sink o s replies here in
    in_place c.add_watch.result turns c.in-Ok-Inside.address (located c.args.setting.now.legend.now c.args.at.now.from s.machine) (λ (a : ℕ). only_told s (watch_reply c.args.setting.now.legend.now c.args.plan.now.watches (watch c.args.at.now.count a))) o s replies w is (done c.add_watch.result turns 0 o s s replies (watch_reply c.args.setting.now.legend.now c.args.plan.now.watches (watch c.args.at.now.count c.in-Ok-Inside.address)) w (tells c.add_watch.result (g.K.Sink.faults c.args.sink.now) (g.K.Sink.faults c.add_watch.new.sink) o s replies (watch_reply c.args.setting.now.legend.now c.args.plan.now.watches (watch c.args.at.now.count c.in-Ok-Inside.address)) (engine c.locate.new.machine) (g.F.PageFile.contents c.locate.new.file) sink (g.K.Sink.contents c.add_watch.new.sink) here2 c.add_watch.ensures.replies))

pub returns-in-Ok-Unknown-clause-acts : goal.returns-in-Ok-Unknown-clause-acts
returns-in-Ok-Unknown-clause-acts g c = λ o s replies here.
    let limit = c.args.setting.now.limits.now.steps in
    let turns = c.args.setting.now.limits.now.turns in
    let sink = g.K.Sink.contents c.args.sink.now in
    let here2 = c.locate.ensures.stays sink o s replies here in
    let w = scene (engine c.locate.new.machine) (g.F.PageFile.contents c.locate.new.file) (g.K.Sink.contents c.tell_no_value.new.sink) in
    let is : Unknown ≡ located c.args.setting.now.legend.now c.args.at.now.from s.machine = (rw c.in-Ok-Unknown.field-0-is at c.in-Ok-Unknown.ensures.tells) sink o s replies here in
    in_no_place c.tell_no_value.result turns (located c.args.setting.now.legend.now c.args.at.now.from s.machine) (λ (a : ℕ). only_told s (watch_reply c.args.setting.now.legend.now c.args.plan.now.watches (watch c.args.at.now.count a))) o s replies w is
    (tells c.tell_no_value.result (g.K.Sink.faults c.args.sink.now) (g.K.Sink.faults c.tell_no_value.new.sink) o s replies no_value_line (engine c.locate.new.machine) (g.F.PageFile.contents c.locate.new.file) sink (g.K.Sink.contents c.tell_no_value.new.sink) here2 c.tell_no_value.ensures)

pub returns-in-Ok-Outside-clause-acts : goal.returns-in-Ok-Outside-clause-acts
returns-in-Ok-Outside-clause-acts g c = λ o s replies here.
    let limit = c.args.setting.now.limits.now.steps in
    let turns = c.args.setting.now.limits.now.turns in
    let sink = g.K.Sink.contents c.args.sink.now in
    let here2 = c.locate.ensures.stays sink o s replies here in
    let w = scene (engine c.locate.new.machine) (g.F.PageFile.contents c.locate.new.file) (g.K.Sink.contents c.tell_outside.new.sink) in
    let is : Outside ≡ located c.args.setting.now.legend.now c.args.at.now.from s.machine = (rw c.in-Ok-Outside.field-0-is at c.in-Ok-Outside.ensures.tells) sink o s replies here in
    outside c.tell_outside.result turns (located c.args.setting.now.legend.now c.args.at.now.from s.machine) (λ (a : ℕ). only_told s (watch_reply c.args.setting.now.legend.now c.args.plan.now.watches (watch c.args.at.now.count a))) o s replies w is
    (tells c.tell_outside.result (g.K.Sink.faults c.args.sink.now) (g.K.Sink.faults c.tell_outside.new.sink) o s replies outside_line (engine c.locate.new.machine) (g.F.PageFile.contents c.locate.new.file) sink (g.K.Sink.contents c.tell_outside.new.sink) here2 c.tell_outside.ensures)

pub returns-in-Err-clause-acts : goal.returns-in-Err-clause-acts
returns-in-Err-clause-acts g c = λ o s replies here.
    let limit = c.args.setting.now.limits.now.steps in
    let turns = c.args.setting.now.limits.now.turns in
    let sink = g.K.Sink.contents c.args.sink.now in
    let here2 = c.locate.ensures.stays sink o s replies here in
    not_done turns (watch_act c.args.setting.now.legend.now c.args.plan.now c.args.at.now s) o s replies (scene (engine c.locate.new.machine) (g.F.PageFile.contents c.locate.new.file) (g.K.Sink.contents c.args.sink.now)) here2

pub returns-in-Ok-Inside-clause-counts : goal.returns-in-Ok-Inside-clause-counts
returns-in-Ok-Inside-clause-counts g c = counts_then c.add_watch.result (g.F.PageFile.faults c.args.file.now) (g.F.PageFile.faults c.locate.new.file) (g.F.PageFile.faults c.locate.new.file) (g.K.Sink.faults c.args.sink.now) (g.K.Sink.faults c.args.sink.now) (g.K.Sink.faults c.add_watch.new.sink) c.in-Ok-Inside.ensures.counts.quiet refl (reply_counts c.add_watch.result (g.F.PageFile.faults c.locate.new.file) (g.K.Sink.faults c.args.sink.now) (g.K.Sink.faults c.add_watch.new.sink) (g.K.Sink.contents c.args.sink.now) (g.K.Sink.contents c.add_watch.new.sink) (watch_reply c.args.setting.now.legend.now c.args.plan.now.watches (watch c.args.at.now.count c.in-Ok-Inside.address)) c.add_watch.ensures.replies)

pub returns-in-Ok-Unknown-clause-counts : goal.returns-in-Ok-Unknown-clause-counts
returns-in-Ok-Unknown-clause-counts g c = counts_then c.tell_no_value.result (g.F.PageFile.faults c.args.file.now) (g.F.PageFile.faults c.locate.new.file) (g.F.PageFile.faults c.locate.new.file) (g.K.Sink.faults c.args.sink.now) (g.K.Sink.faults c.args.sink.now) (g.K.Sink.faults c.tell_no_value.new.sink) c.in-Ok-Unknown.ensures.counts.quiet refl (reply_counts c.tell_no_value.result (g.F.PageFile.faults c.locate.new.file) (g.K.Sink.faults c.args.sink.now) (g.K.Sink.faults c.tell_no_value.new.sink) (g.K.Sink.contents c.args.sink.now) (g.K.Sink.contents c.tell_no_value.new.sink) no_value_line c.tell_no_value.ensures)

pub returns-in-Ok-Outside-clause-counts : goal.returns-in-Ok-Outside-clause-counts
returns-in-Ok-Outside-clause-counts g c = counts_then c.tell_outside.result (g.F.PageFile.faults c.args.file.now) (g.F.PageFile.faults c.locate.new.file) (g.F.PageFile.faults c.locate.new.file) (g.K.Sink.faults c.args.sink.now) (g.K.Sink.faults c.args.sink.now) (g.K.Sink.faults c.tell_outside.new.sink) c.in-Ok-Outside.ensures.counts.quiet refl (reply_counts c.tell_outside.result (g.F.PageFile.faults c.locate.new.file) (g.K.Sink.faults c.args.sink.now) (g.K.Sink.faults c.tell_outside.new.sink) (g.K.Sink.contents c.args.sink.now) (g.K.Sink.contents c.tell_outside.new.sink) outside_line c.tell_outside.ensures)

pub returns-in-Err-clause-counts : goal.returns-in-Err-clause-counts
returns-in-Err-clause-counts g c = (c.in-Err.ensures.counts.later, c.in-Err.ensures.counts.cause, refl)

pub returns-in-Ok-Inside-clause-breaks : goal.returns-in-Ok-Inside-clause-breaks
returns-in-Ok-Inside-clause-breaks g c = λ o s replies here.
    let sink = g.K.Sink.contents c.args.sink.now in
    let is : Inside c.in-Ok-Inside.address ≡ located c.args.setting.now.legend.now c.args.at.now.from s.machine = (rw c.in-Ok-Inside.field-0-is at c.in-Ok-Inside.ensures.tells) sink o s replies here in
    placed_at c.add_watch.result c.in-Ok-Inside.address (located c.args.setting.now.legend.now c.args.at.now.from s.machine) c.args.plan.now (record c.args.plan.now { watches = c.add_watch.new.watches }) (watched_at c.args.plan.now c.args.at.now.count) is
    (watched_is c.args.plan.now c.add_watch.new.watches c.args.at.now.count c.in-Ok-Inside.address c.add_watch.ensures.watches)

pub returns-in-Ok-Unknown-clause-breaks : goal.returns-in-Ok-Unknown-clause-breaks
returns-in-Ok-Unknown-clause-breaks g c = λ o s replies here.
    let sink = g.K.Sink.contents c.args.sink.now in
    let is : Unknown ≡ located c.args.setting.now.legend.now c.args.at.now.from s.machine = (rw c.in-Ok-Unknown.field-0-is at c.in-Ok-Unknown.ensures.tells) sink o s replies here in
    placed_same c.tell_no_value.result (located c.args.setting.now.legend.now c.args.at.now.from s.machine) c.args.plan.now (watched_at c.args.plan.now c.args.at.now.count) is

pub returns-in-Ok-Outside-clause-breaks : goal.returns-in-Ok-Outside-clause-breaks
returns-in-Ok-Outside-clause-breaks g c = λ o s replies here.
    let sink = g.K.Sink.contents c.args.sink.now in
    let is : Outside ≡ located c.args.setting.now.legend.now c.args.at.now.from s.machine = (rw c.in-Ok-Outside.field-0-is at c.in-Ok-Outside.ensures.tells) sink o s replies here in
    placed_outside c.tell_outside.result (located c.args.setting.now.legend.now c.args.at.now.from s.machine) c.args.plan.now (watched_at c.args.plan.now c.args.at.now.count) is

pub returns-in-Ok-Inside-clause-only : goal.returns-in-Ok-Inside-clause-only
returns-in-Ok-Inside-clause-only g c = reply_only _ _ _ _ _ _ c.add_watch.ensures.replies

pub returns-in-Ok-Unknown-clause-only : goal.returns-in-Ok-Unknown-clause-only
returns-in-Ok-Unknown-clause-only g c = reply_only _ _ _ _ _ _ c.tell_no_value.ensures

pub returns-in-Ok-Outside-clause-only : goal.returns-in-Ok-Outside-clause-only
returns-in-Ok-Outside-clause-only g c = reply_only _ _ _ _ _ _ c.tell_outside.ensures

pub returns-in-Err-clause-only : goal.returns-in-Err-clause-only
returns-in-Err-clause-only g c = only_none _
