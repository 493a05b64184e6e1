use Rattle.std.proofs.Common.{◌≡◌, ◌∙◌, ◌∷◌, [], ℕ, Option, Result, Err, Some, None, ap, refl, sym, subst}
use Rattle.vax_flat.specs.declared.Ending.{Ending}
use Rattle.vax_report.specs.Lines.{ending_line}
use Rattle.vax_machine.specs.Meaning.{engine}
use Rattle.vax_script.specs.declared.request.Request.TheVariants.{Continue}
use Rattle.vax_script.specs.declared.request.Line.TheVariants.{Request as Asks}
use Rattle.vax_console.specs.Ends.{Advances, Goes, IsAt, scene, session_on}
use Rattle.vax_console.specs.Transcript.{advanced, last_of, left, stop_line}
use Rattle.vax_console.specs.declared.stopped.Stopped.{Stopped}
use Rattle.vax_console.specs.Parts.{Spends}
use Rattle.vax_console.proofs.Spending.{ended_spends, run_spends, stopped_spends}
use Rattle.vax_console.proofs.Only.{only_then, reply_only}
use Rattle.vax_console.proofs.Replying.{causes_then, reply_causes}
use Rattle.vax_console.proofs.Requested.{same_ending}
use Rattle.vax_console.proofs.Running.{err_same, none_of, continue_goes, some_of, continue_refused, continue_stopped}
use Rattle.vax_flat.specs.Parts.{At}
use Rattle.vax_console.specs.Turns.{HasMadeSteps, Holds, StepsHold, setting_of, stand_at}
use Rattle.vax_console.proofs.Turned.{continue_held, continue_refused_held, continue_stopped_held}
use Rattle.vax_console.proofs.runs.proceed.Goals as goal

pub returns-then-is_some-clause-goes : goal.returns-then-is_some-clause-goes
returns-then-is_some-clause-goes g c m means =
    let how = some_of c.ended.result (sym c.is_some.ensures ∙ c.if-is_some.true) in
    let ended : m.ending ≡ Some how.0 = same_ending (engine c.args.machine.now) (g.F.PageFile.contents c.args.file.now) m means ∙ (sym c.ended.ensures ∙ how.1) in
    continue_refused c.reply.result c.args.limits.now m how.0 (engine c.args.machine.now) (g.F.PageFile.contents c.args.file.now) (g.K.Sink.faults c.args.sink.now) (g.K.Sink.faults c.reply.new.sink) (g.K.Sink.contents c.args.sink.now) (g.K.Sink.contents c.reply.new.sink) means ended c.reply.ensures

pub returns-then-is_some-clause-only : goal.returns-then-is_some-clause-only
returns-then-is_some-clause-only g c = reply_only _ _ _ _ _ _ c.reply.ensures

pub returns-in_err-ended-clause-goes : goal.returns-in_err-ended-clause-goes
returns-in_err-ended-clause-goes g c m means =
    let s = session_on (engine c.args.machine.now) m in
    let e = c.in_err-ended.field-0.0 in
    let count : c.steps_left-left.result ≡ left c.args.limits.now.steps s = c.steps_left-left.ensures.left in
    let gone = subst (λ (n : ℕ). Advances (Err e) c.args.limits.now n s (engine c.advance.new.machine) (g.F.PageFile.contents c.advance.new.file) (g.K.Sink.contents c.args.sink.now) (g.K.Sink.contents c.advance.new.sink)) count (c.in_err-ended.ensures.goes m means) in
    subst (λ (z : Result (Unit {0}) Stopped). Goes z c.args.limits.now (session_on (engine c.args.machine.now) m) (Asks (Continue) ∷ []) (engine c.advance.new.machine) (g.F.PageFile.contents c.advance.new.file) (g.K.Sink.contents c.args.sink.now) (g.K.Sink.contents c.advance.new.sink)) (sym (err_same c.from_residual.result e c.from_residual.ensures.1))
    (continue_stopped e c.args.limits.now s (engine c.advance.new.machine) (g.F.PageFile.contents c.advance.new.file) (g.K.Sink.contents c.args.sink.now) (g.K.Sink.contents c.advance.new.sink) gone)

pub returns-clause-only : goal.returns-clause-only
returns-clause-only g c = only_then _ _ _ c.advance.ensures.only (reply_only _ _ _ _ _ _ c.reply-2.ensures)

pub advance-requires-clause-few_steps : goal.advance-requires-clause-few_steps
advance-requires-clause-few_steps g c = c.steps_left-left.ensures.within

pub returns-clause-goes : goal.returns-clause-goes
returns-clause-goes g c m means =
    let s = session_on (engine c.args.machine.now) m in
    let count : c.steps_left-left.result ≡ left c.args.limits.now.steps s = c.steps_left-left.ensures.left in
    let a = subst (λ (n : ℕ). (c.in_ok-ended.ended ≡ (advanced n s).machine.ending) × IsAt m (advanced n s) [] (engine c.advance.new.machine) (g.F.PageFile.contents c.advance.new.file) (g.K.Sink.contents c.args.sink.now) (g.K.Sink.contents c.advance.new.sink)) count (c.in_ok-ended.ensures.goes m means) in
    let t = advanced (left c.args.limits.now.steps s) s in
    let going : m.ending ≡ None = same_ending (engine c.args.machine.now) (g.F.PageFile.contents c.args.file.now) m means ∙ (sym c.ended.ensures ∙ none_of c.ended.result (sym c.is_some.ensures ∙ c.if-is_some.false)) in
    let text : c.as_slice.result.now ≡ stop_line t = c.as_slice.ensures ∙ (c.stop_line.ensures ∙ ap (λ (z : Option Ending). ending_line (last_of z)) a.0) in
    continue_goes c.reply-2.result c.args.limits.now s c.as_slice.result.now (engine c.advance.new.machine) (g.F.PageFile.contents c.advance.new.file) (g.K.Sink.faults c.advance.new.sink) (g.K.Sink.faults c.reply-2.new.sink) (g.K.Sink.contents c.args.sink.now) (g.K.Sink.contents c.advance.new.sink) (g.K.Sink.contents c.reply-2.new.sink) going a.1 (sym text) c.reply-2.ensures

pub returns-then-is_some-clause-spends : goal.returns-then-is_some-clause-spends
returns-then-is_some-clause-spends g c m means =
    let s = session_on (engine c.args.machine.now) m in
    let how = some_of c.ended.result (sym c.is_some.ensures ∙ c.if-is_some.true) in
    let ended : m.ending ≡ Some how.0 = same_ending (engine c.args.machine.now) (g.F.PageFile.contents c.args.file.now) m means ∙ (sym c.ended.ensures ∙ how.1) in
    ended_spends c.reply.result c.args.limits.now.steps c.args.schedule.now s (Asks Continue) how.0 (engine c.args.machine.now) (g.F.PageFile.contents c.args.file.now) (g.K.Sink.faults c.args.sink.now) (g.K.Sink.faults c.reply.new.sink) (g.K.Sink.contents c.args.sink.now) (g.K.Sink.contents c.reply.new.sink) _ ended c.reply.ensures

pub returns-in_err-ended-clause-spends : goal.returns-in_err-ended-clause-spends
returns-in_err-ended-clause-spends g c m means =
    let s = session_on (engine c.args.machine.now) m in
    let e = c.in_err-ended.field-0.0 in
    let count : c.steps_left-left.result ≡ left c.args.limits.now.steps s = c.steps_left-left.ensures.left in
    subst (λ (z : Result (Unit {0}) Stopped). Spends z c.args.limits.now.steps c.args.schedule.now s (Asks Continue ∷ []) (engine c.args.machine.now) (engine c.advance.new.machine) (g.F.PageFile.contents c.advance.new.file)) (sym (err_same c.from_residual.result e c.from_residual.ensures.1))
    (stopped_spends e c.args.limits.now.steps c.args.schedule.now s (Asks Continue) c.steps_left-left.result (engine c.args.machine.now) (engine c.advance.new.machine) (g.F.PageFile.contents c.advance.new.file) (sym count) (c.in_err-ended.ensures.spends m means))

pub returns-clause-spends : goal.returns-clause-spends
returns-clause-spends g c m means =
    let s = session_on (engine c.args.machine.now) m in
    let count : c.steps_left-left.result ≡ left c.args.limits.now.steps s = c.steps_left-left.ensures.left in
    run_spends c.reply-2.result c.args.limits.now.steps c.args.schedule.now s (Asks Continue) c.steps_left-left.result (engine c.args.machine.now) (engine c.advance.new.machine) (g.F.PageFile.contents c.advance.new.file) (g.K.Sink.faults c.advance.new.sink) (g.K.Sink.faults c.reply-2.new.sink) (g.K.Sink.contents c.advance.new.sink) (g.K.Sink.contents c.reply-2.new.sink) _ (sym count) (c.in_ok-ended.ensures.spends m means) c.reply-2.ensures

pub returns-then-is_some-clause-holds : goal.returns-then-is_some-clause-holds
returns-then-is_some-clause-holds g c m means =
    let how = some_of c.ended.result (sym c.is_some.ensures ∙ c.if-is_some.true) in
    let ended : m.ending ≡ Some how.0 = same_ending (engine c.args.machine.now) (g.F.PageFile.contents c.args.file.now) m means ∙ (sym c.ended.ensures ∙ how.1) in
    continue_refused_held c.reply.result c.args.limits.now c.args.schedule.now (scene (engine c.args.machine.now) (g.F.PageFile.contents c.args.file.now) (g.K.Sink.contents c.args.sink.now)) (scene (engine c.args.machine.now) (g.F.PageFile.contents c.args.file.now) (g.K.Sink.contents c.reply.new.sink)) m how.0 (g.K.Sink.faults c.args.sink.now) (g.K.Sink.faults c.reply.new.sink) refl refl means ended c.reply.ensures

pub returns-in_err-ended-clause-holds : goal.returns-in_err-ended-clause-holds
returns-in_err-ended-clause-holds g c m means =
    let e = c.in_err-ended.field-0.0 in
    let gone = subst (λ (n : ℕ). StepsHold (Err e) (setting_of (scene (engine c.args.machine.now) (g.F.PageFile.contents c.args.file.now) (g.K.Sink.contents c.args.sink.now)) c.args.limits.now c.args.schedule.now) n (stand_at (scene (engine c.args.machine.now) (g.F.PageFile.contents c.args.file.now) (g.K.Sink.contents c.args.sink.now)) (At m)) (scene (engine c.advance.new.machine) (g.F.PageFile.contents c.advance.new.file) (g.K.Sink.contents c.advance.new.sink))) c.steps_left-left.ensures.left (c.in_err-ended.ensures.holds m means) in
    subst (λ (z : Result (Unit {0}) Stopped). Holds z (setting_of (scene (engine c.args.machine.now) (g.F.PageFile.contents c.args.file.now) (g.K.Sink.contents c.args.sink.now)) c.args.limits.now c.args.schedule.now) (Asks Continue ∷ []) (stand_at (scene (engine c.args.machine.now) (g.F.PageFile.contents c.args.file.now) (g.K.Sink.contents c.args.sink.now)) (At m)) (scene (engine c.advance.new.machine) (g.F.PageFile.contents c.advance.new.file) (g.K.Sink.contents c.advance.new.sink))) (sym (err_same c.from_residual.result e c.from_residual.ensures.1))
    (continue_stopped_held e c.args.limits.now c.args.schedule.now (scene (engine c.args.machine.now) (g.F.PageFile.contents c.args.file.now) (g.K.Sink.contents c.args.sink.now)) (scene (engine c.advance.new.machine) (g.F.PageFile.contents c.advance.new.file) (g.K.Sink.contents c.advance.new.sink)) m gone)

pub returns-clause-holds : goal.returns-clause-holds
returns-clause-holds g c m means =
    let s = session_on (engine c.args.machine.now) m in
    let count : c.steps_left-left.result ≡ left c.args.limits.now.steps s = c.steps_left-left.ensures.left in
    let a = subst (λ (n : ℕ). (c.in_ok-ended.ended ≡ (advanced n s).machine.ending) × IsAt m (advanced n s) [] (engine c.advance.new.machine) (g.F.PageFile.contents c.advance.new.file) (g.K.Sink.contents c.args.sink.now) (g.K.Sink.contents c.advance.new.sink)) count (c.in_ok-ended.ensures.goes m means) in
    let t = advanced (left c.args.limits.now.steps s) s in
    let going : m.ending ≡ None = same_ending (engine c.args.machine.now) (g.F.PageFile.contents c.args.file.now) m means ∙ (sym c.ended.ensures ∙ none_of c.ended.result (sym c.is_some.ensures ∙ c.if-is_some.false)) in
    let text : c.as_slice.result.now ≡ stop_line t = c.as_slice.ensures ∙ (c.stop_line.ensures ∙ ap (λ (z : Option Ending). ending_line (last_of z)) a.0) in
    let made = subst (λ (n : ℕ). HasMadeSteps (setting_of (scene (engine c.args.machine.now) (g.F.PageFile.contents c.args.file.now) (g.K.Sink.contents c.args.sink.now)) c.args.limits.now c.args.schedule.now) n (stand_at (scene (engine c.args.machine.now) (g.F.PageFile.contents c.args.file.now) (g.K.Sink.contents c.args.sink.now)) (At m)) (scene (engine c.advance.new.machine) (g.F.PageFile.contents c.advance.new.file) (g.K.Sink.contents c.advance.new.sink))) count (c.in_ok-ended.ensures.holds m means) in
    continue_held c.reply-2.result c.args.limits.now c.args.schedule.now (scene (engine c.args.machine.now) (g.F.PageFile.contents c.args.file.now) (g.K.Sink.contents c.args.sink.now)) (scene (engine c.advance.new.machine) (g.F.PageFile.contents c.advance.new.file) (g.K.Sink.contents c.reply-2.new.sink)) m (g.K.Sink.contents c.advance.new.sink) c.as_slice.result.now (g.K.Sink.faults c.advance.new.sink) (g.K.Sink.faults c.reply-2.new.sink) going made (sym text) c.reply-2.ensures

pub returns-clause-causes : goal.returns-clause-causes
returns-clause-causes g c = causes_then c.reply-2.result _ _ _ _ _ _ c.in_ok-ended.ensures.causes.0 c.in_ok-ended.ensures.causes.1 (reply_causes c.reply-2.result (g.F.PageFile.faults c.advance.new.file) _ _ _ _ _ c.reply-2.ensures)
