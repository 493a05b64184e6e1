use Rattle.std.proofs.Common.{ℕ, List, sym, subst}
use Rattle.vax_machine.specs.Meaning.{engine}
use Rattle.vax_console.specs.Ends.{scene}
use Rattle.vax_debug_words.specs.declared.request.Value.{Value}
use Rattle.vax_debug_acts.specs.Acting.{Acts, ActsFrom}
use Rattle.vax_debug_acts.specs.Acts.{put_act, put_value_act, too_large_line}
use Rattle.vax_debug_acts.proofs.Telling.{done, reply_only, tells}
use Rattle.vax_debug_acts.proofs.deposits.put_value.Goals as goal

pub returns-in-Number-clause-acts : goal.returns-in-Number-clause-acts
returns-in-Number-clause-acts g c = subst (λ (z : Value). ActsFrom (scene (engine c.args.machine.now) (g.F.PageFile.contents c.args.file.now) (g.K.Sink.contents c.args.sink.now)) (scene (engine c.put_result.new.machine) (g.F.PageFile.contents c.put_result.new.file) (g.K.Sink.contents c.put_result.new.sink)) c.put_result.result c.args.setting.now.limits.now (put_value_act c.args.setting.now.legend.now c.args.address z)) (sym c.in-Number.is)
    (c.put_result.ensures.acts)

pub returns-in-Quadword-clause-acts : goal.returns-in-Quadword-clause-acts
returns-in-Quadword-clause-acts g c = subst (λ (z : Value). ActsFrom (scene (engine c.args.machine.now) (g.F.PageFile.contents c.args.file.now) (g.K.Sink.contents c.args.sink.now)) (scene (engine c.put.new.machine) (g.F.PageFile.contents c.put.new.file) (g.K.Sink.contents c.put.new.sink)) c.put.result c.args.setting.now.limits.now (put_value_act c.args.setting.now.legend.now c.args.address z)) (sym c.in-Quadword.is)
    (subst (λ (z : List ℕ). ActsFrom (scene (engine c.args.machine.now) (g.F.PageFile.contents c.args.file.now) (g.K.Sink.contents c.args.sink.now)) (scene (engine c.put.new.machine) (g.F.PageFile.contents c.put.new.file) (g.K.Sink.contents c.put.new.sink)) c.put.result c.args.setting.now.limits.now (put_act c.args.address z)) c.to_le_bytes.ensures (c.put.ensures.acts c.args.setting.now.limits.now))

pub returns-in-Text-clause-acts : goal.returns-in-Text-clause-acts
returns-in-Text-clause-acts g c = subst (λ (z : Value). ActsFrom (scene (engine c.args.machine.now) (g.F.PageFile.contents c.args.file.now) (g.K.Sink.contents c.args.sink.now)) (scene (engine c.put-in-Text.new.machine) (g.F.PageFile.contents c.put-in-Text.new.file) (g.K.Sink.contents c.put-in-Text.new.sink)) c.put-in-Text.result c.args.setting.now.limits.now (put_value_act c.args.setting.now.legend.now c.args.address z)) (sym c.in-Text.is)
    (subst (λ (z : List ℕ). ActsFrom (scene (engine c.args.machine.now) (g.F.PageFile.contents c.args.file.now) (g.K.Sink.contents c.args.sink.now)) (scene (engine c.put-in-Text.new.machine) (g.F.PageFile.contents c.put-in-Text.new.file) (g.K.Sink.contents c.put-in-Text.new.sink)) c.put-in-Text.result c.args.setting.now.limits.now (put_act c.args.address z)) c.as_slice.ensures (c.put-in-Text.ensures.acts c.args.setting.now.limits.now))

pub returns-in-TooLarge-clause-acts : goal.returns-in-TooLarge-clause-acts
returns-in-TooLarge-clause-acts g c = λ o s replies here.
    let turns = c.args.setting.now.limits.now.turns in
    let w = scene (engine c.args.machine.now) (g.F.PageFile.contents c.args.file.now) (g.K.Sink.contents c.tell_too_large.new.sink) in
    subst (λ (z : Value). Acts c.tell_too_large.result turns (put_value_act c.args.setting.now.legend.now c.args.address z s) o s replies w) (sym c.in-TooLarge.is)
    (done c.tell_too_large.result turns 0 o s s replies too_large_line w
    (tells c.tell_too_large.result (g.K.Sink.faults c.args.sink.now) (g.K.Sink.faults c.tell_too_large.new.sink) o s replies too_large_line (engine c.args.machine.now) (g.F.PageFile.contents c.args.file.now) (g.K.Sink.contents c.args.sink.now) (g.K.Sink.contents c.tell_too_large.new.sink) here c.tell_too_large.ensures))

pub returns-in-TooLarge-clause-only : goal.returns-in-TooLarge-clause-only
returns-in-TooLarge-clause-only g c = reply_only _ _ _ _ _ _ c.tell_too_large.ensures
