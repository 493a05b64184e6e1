use Rattle.std.proofs.Common.{◌≡◌, ℕ, refl}
use Rattle.vax_machine.specs.Meaning.{engine}
use Rattle.vax_console.specs.Ends.{scene}
use Rattle.vax_debug_acts.proofs.Telling.{counts_then, in_no_place, in_place, not_done, outside, reply_counts, reply_only, tells}
use Rattle.vax_debug.specs.Places.{located}
use Rattle.vax_debug.specs.declared.places.Place.TheVariants.{Inside, Outside, Unknown}
use Rattle.vax_debug.specs.Calls.{goal_at}
use Rattle.vax_debug_acts.specs.Acts.{no_value_line, outside_line, to_goal, until_act}
use Rattle.vax_console.proofs.Only.{only_none}
use Rattle.vax_debug_acts.proofs.moves.until.Goals as goal

pub returns-in-Ok-Inside-clause-acts : goal.returns-in-Ok-Inside-clause-acts
returns-in-Ok-Inside-clause-acts g c = λ o s replies here.
    let limit = c.args.setting.now.limits.now.steps in
    let turns = c.args.setting.now.limits.now.turns in
    let sink = g.K.Sink.contents c.args.sink.now in
    let here2 = c.locate.ensures.stays sink o s replies here in
    let w = scene (engine c.go_to.new.machine) (g.F.PageFile.contents c.go_to.new.file) (g.K.Sink.contents c.go_to.new.sink) in
    let is : Inside c.in-Ok-Inside.address ≡ located c.args.setting.now.legend.now c.args.to.now s.machine = (rw c.in-Ok-Inside.field-0-is at c.in-Ok-Inside.ensures.tells) sink o s replies here in
    in_place c.go_to.result turns c.in-Ok-Inside.address (located c.args.setting.now.legend.now c.args.to.now s.machine) (λ (a : ℕ). to_goal limit c.args.setting.now.legend.now c.args.plan.now (goal_at a 0) s) o s replies w is (c.go_to.ensures.acts o s replies here2)

pub returns-in-Ok-Unknown-clause-acts : goal.returns-in-Ok-Unknown-clause-acts
returns-in-Ok-Unknown-clause-acts g c = λ o s replies here.
    let limit = c.args.setting.now.limits.now.steps in
    let turns = c.args.setting.now.limits.now.turns in
    let sink = g.K.Sink.contents c.args.sink.now in
    let here2 = c.locate.ensures.stays sink o s replies here in
    let w = scene (engine c.locate.new.machine) (g.F.PageFile.contents c.locate.new.file) (g.K.Sink.contents c.tell_no_value.new.sink) in
    let is : Unknown ≡ located c.args.setting.now.legend.now c.args.to.now s.machine = (rw c.in-Ok-Unknown.field-0-is at c.in-Ok-Unknown.ensures.tells) sink o s replies here in
    in_no_place c.tell_no_value.result turns (located c.args.setting.now.legend.now c.args.to.now s.machine) (λ (a : ℕ). to_goal limit c.args.setting.now.legend.now c.args.plan.now (goal_at a 0) s) o s replies w is
    (tells c.tell_no_value.result (g.K.Sink.faults c.args.sink.now) (g.K.Sink.faults c.tell_no_value.new.sink) o s replies no_value_line (engine c.locate.new.machine) (g.F.PageFile.contents c.locate.new.file) sink (g.K.Sink.contents c.tell_no_value.new.sink) here2 c.tell_no_value.ensures)

pub returns-in-Ok-Outside-clause-acts : goal.returns-in-Ok-Outside-clause-acts
returns-in-Ok-Outside-clause-acts g c = λ o s replies here.
    let limit = c.args.setting.now.limits.now.steps in
    let turns = c.args.setting.now.limits.now.turns in
    let sink = g.K.Sink.contents c.args.sink.now in
    let here2 = c.locate.ensures.stays sink o s replies here in
    let w = scene (engine c.locate.new.machine) (g.F.PageFile.contents c.locate.new.file) (g.K.Sink.contents c.tell_outside.new.sink) in
    let is : Outside ≡ located c.args.setting.now.legend.now c.args.to.now s.machine = (rw c.in-Ok-Outside.field-0-is at c.in-Ok-Outside.ensures.tells) sink o s replies here in
    outside c.tell_outside.result turns (located c.args.setting.now.legend.now c.args.to.now s.machine) (λ (a : ℕ). to_goal limit c.args.setting.now.legend.now c.args.plan.now (goal_at a 0) s) o s replies w is
    (tells c.tell_outside.result (g.K.Sink.faults c.args.sink.now) (g.K.Sink.faults c.tell_outside.new.sink) o s replies outside_line (engine c.locate.new.machine) (g.F.PageFile.contents c.locate.new.file) sink (g.K.Sink.contents c.tell_outside.new.sink) here2 c.tell_outside.ensures)

pub returns-in-Err-clause-acts : goal.returns-in-Err-clause-acts
returns-in-Err-clause-acts g c = λ o s replies here.
    let limit = c.args.setting.now.limits.now.steps in
    let turns = c.args.setting.now.limits.now.turns in
    let sink = g.K.Sink.contents c.args.sink.now in
    let here2 = c.locate.ensures.stays sink o s replies here in
    not_done turns (until_act limit c.args.setting.now.legend.now c.args.plan.now c.args.to.now s) o s replies (scene (engine c.locate.new.machine) (g.F.PageFile.contents c.locate.new.file) (g.K.Sink.contents c.args.sink.now)) here2

pub returns-in-Ok-Inside-clause-counts : goal.returns-in-Ok-Inside-clause-counts
returns-in-Ok-Inside-clause-counts g c = counts_then c.go_to.result (g.F.PageFile.faults c.args.file.now) (g.F.PageFile.faults c.locate.new.file) (g.F.PageFile.faults c.go_to.new.file) (g.K.Sink.faults c.args.sink.now) (g.K.Sink.faults c.args.sink.now) (g.K.Sink.faults c.go_to.new.sink) c.in-Ok-Inside.ensures.counts.quiet refl c.go_to.ensures.counts

pub returns-in-Ok-Unknown-clause-counts : goal.returns-in-Ok-Unknown-clause-counts
returns-in-Ok-Unknown-clause-counts g c = counts_then c.tell_no_value.result (g.F.PageFile.faults c.args.file.now) (g.F.PageFile.faults c.locate.new.file) (g.F.PageFile.faults c.locate.new.file) (g.K.Sink.faults c.args.sink.now) (g.K.Sink.faults c.args.sink.now) (g.K.Sink.faults c.tell_no_value.new.sink) c.in-Ok-Unknown.ensures.counts.quiet refl (reply_counts c.tell_no_value.result (g.F.PageFile.faults c.locate.new.file) (g.K.Sink.faults c.args.sink.now) (g.K.Sink.faults c.tell_no_value.new.sink) (g.K.Sink.contents c.args.sink.now) (g.K.Sink.contents c.tell_no_value.new.sink) no_value_line c.tell_no_value.ensures)

pub returns-in-Ok-Outside-clause-counts : goal.returns-in-Ok-Outside-clause-counts
returns-in-Ok-Outside-clause-counts g c = counts_then c.tell_outside.result (g.F.PageFile.faults c.args.file.now) (g.F.PageFile.faults c.locate.new.file) (g.F.PageFile.faults c.locate.new.file) (g.K.Sink.faults c.args.sink.now) (g.K.Sink.faults c.args.sink.now) (g.K.Sink.faults c.tell_outside.new.sink) c.in-Ok-Outside.ensures.counts.quiet refl (reply_counts c.tell_outside.result (g.F.PageFile.faults c.locate.new.file) (g.K.Sink.faults c.args.sink.now) (g.K.Sink.faults c.tell_outside.new.sink) (g.K.Sink.contents c.args.sink.now) (g.K.Sink.contents c.tell_outside.new.sink) outside_line c.tell_outside.ensures)

pub returns-in-Err-clause-counts : goal.returns-in-Err-clause-counts
returns-in-Err-clause-counts g c = (c.in-Err.ensures.counts.later, c.in-Err.ensures.counts.cause, refl)

pub returns-in-Ok-Unknown-clause-only : goal.returns-in-Ok-Unknown-clause-only
returns-in-Ok-Unknown-clause-only g c = reply_only _ _ _ _ _ _ c.tell_no_value.ensures

pub returns-in-Ok-Outside-clause-only : goal.returns-in-Ok-Outside-clause-only
returns-in-Ok-Outside-clause-only g c = reply_only _ _ _ _ _ _ c.tell_outside.ensures

pub returns-in-Err-clause-only : goal.returns-in-Err-clause-only
returns-in-Err-clause-only g c = only_none _
