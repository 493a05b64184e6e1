use Rattle.std.proofs.Common.{◌≡◌, ◌∙◌, ◌++◌, ◌∷◌, [], List, Result, Ok, Err, refl, sym, subst}
use Rattle.vax_machine.specs.Meaning.{engine}
use Rattle.vax_script.specs.Requests.{readings}
use Rattle.vax_script.specs.declared.request.Line.{Line}
use Rattle.vax_console.specs.Ends.{Causes, Goes, scene, session_on}
use Rattle.vax_console.specs.Parts.{Spends}
use Rattle.vax_console.specs.declared.stopped.Stopped.{Stopped}
use Rattle.vax_console.proofs.Only.{only_none, only_then}
use Rattle.vax_console.proofs.Replying.{causes_then}
use Rattle.vax_console.proofs.Running.{err_same}
use Rattle.vax_console.proofs.Sessions.{none_carried, one_read, stopped_further, then_goes}
use Rattle.vax_console.proofs.Spending.{none_spent, spends_further, then_spends}
use Rattle.vax_flat.specs.Parts.{At}
use Rattle.vax_console.specs.Turns.{Holds, setting_of, stand_at}
use Rattle.vax_console.proofs.Turning.{held_further, none_held, then_held}
use Rattle.vax_console.proofs.lines.carry_out_all.Goals as goal

pub loop-line-init : goal.loop-line-init
loop-line-init g c = record {
  quiet = refl;
  sunk = refl;
  between = c.requires.between;
  only = only_none (g.K.Sink.contents c.args.sink.now);
  carried = ([], refl, λ m means. (none_carried c.args.limits.now (session_on (engine c.args.machine.now) m) (engine c.args.machine.now) (g.F.PageFile.contents c.args.file.now) (g.K.Sink.contents c.args.sink.now) refl means, none_spent c.args.limits.now.steps c.args.schedule.now (session_on (engine c.args.machine.now) m) (engine c.args.machine.now), none_held (setting_of (scene (engine c.args.machine.now) (g.F.PageFile.contents c.args.file.now) (g.K.Sink.contents c.args.sink.now)) c.args.limits.now c.args.schedule.now) (scene (engine c.args.machine.now) (g.F.PageFile.contents c.args.file.now) (g.K.Sink.contents c.args.sink.now)) m means refl));
}

pub returns-in_err-carry_out-clause-goes : goal.returns-in_err-carry_out-clause-goes
returns-in_err-carry_out-clause-goes g c m means =
    let before = c.loop-line.invariant.carried in
    let e = c.in_err-carry_out.field-0.0 in
    let split : readings c.args.script.now ≡ (before.0 ++ c.read_line.result ∷ []) ++ readings c.in-Some.behind.now = one_read c.args.script.now c.loop-line.rest.now c.in-Some.line.now c.in-Some.behind.now before.0 c.read_line.result before.1 c.in-Some.ensures.lines c.read_line.ensures.says in
    let here = then_goes (Err e) c.args.limits.now (session_on (engine c.args.machine.now) m) before.0 (c.read_line.result ∷ []) (engine c.loop-line.machine) (engine c.carry_out.new.machine) (g.F.PageFile.contents c.loop-line.file) (g.F.PageFile.contents c.carry_out.new.file) (g.K.Sink.contents c.args.sink.now) (g.K.Sink.contents c.loop-line.sink) (g.K.Sink.contents c.carry_out.new.sink) (before.2 m means).0 c.in_err-carry_out.ensures.goes in
    let all = stopped_further e c.args.limits.now (session_on (engine c.args.machine.now) m) (before.0 ++ c.read_line.result ∷ []) (readings c.in-Some.behind.now) (engine c.carry_out.new.machine) (g.F.PageFile.contents c.carry_out.new.file) (g.K.Sink.contents c.args.sink.now) (g.K.Sink.contents c.carry_out.new.sink) here in
    subst (λ (z : Result (Unit {0}) Stopped). Goes z c.args.limits.now (session_on (engine c.args.machine.now) m) (readings c.args.script.now) (engine c.carry_out.new.machine) (g.F.PageFile.contents c.carry_out.new.file) (g.K.Sink.contents c.args.sink.now) (g.K.Sink.contents c.carry_out.new.sink)) (sym (err_same c.from_residual.result e c.from_residual.ensures.1))
    (subst (λ (z : List Line). Goes (Err e) c.args.limits.now (session_on (engine c.args.machine.now) m) z (engine c.carry_out.new.machine) (g.F.PageFile.contents c.carry_out.new.file) (g.K.Sink.contents c.args.sink.now) (g.K.Sink.contents c.carry_out.new.sink)) (sym split) all)

pub returns-in_err-carry_out-clause-only : goal.returns-in_err-carry_out-clause-only
returns-in_err-carry_out-clause-only g c = only_then _ _ _ c.loop-line.invariant.only c.carry_out.ensures.only

pub loop-line-preserved : goal.loop-line-preserved
loop-line-preserved g c =
    let before = c.loop-line.invariant.carried in
    let split : readings c.args.script.now ≡ (before.0 ++ c.read_line.result ∷ []) ++ readings c.in-Some.behind.now = one_read c.args.script.now c.loop-line.rest.now c.in-Some.line.now c.in-Some.behind.now before.0 c.read_line.result before.1 c.in-Some.ensures.lines c.read_line.ensures.says in
    record {
      quiet = c.in_ok-carry_out.ensures.causes.0 ∙ c.loop-line.invariant.quiet;
      sunk = c.in_ok-carry_out.ensures.causes.1 ∙ c.loop-line.invariant.sunk;
      between = c.in_ok-carry_out.ensures.between refl;
      only = only_then _ _ _ c.loop-line.invariant.only c.carry_out.ensures.only;
      carried = (
        before.0 ++ c.read_line.result ∷ [],
        split,
        λ m means. (
          then_goes (Ok tt) c.args.limits.now (session_on (engine c.args.machine.now) m) before.0 (c.read_line.result ∷ []) (engine c.loop-line.machine) (engine c.carry_out.new.machine) (g.F.PageFile.contents c.loop-line.file) (g.F.PageFile.contents c.carry_out.new.file) (g.K.Sink.contents c.args.sink.now) (g.K.Sink.contents c.loop-line.sink) (g.K.Sink.contents c.carry_out.new.sink) (before.2 m means).0 c.in_ok-carry_out.ensures.goes,
          then_spends (Ok tt) c.args.limits.now.steps c.args.schedule.now (session_on (engine c.args.machine.now) m) before.0 (c.read_line.result ∷ []) (engine c.args.machine.now) (engine c.loop-line.machine) (engine c.carry_out.new.machine) (g.F.PageFile.contents c.loop-line.file) (g.F.PageFile.contents c.carry_out.new.file) (before.2 m means).0.steps (before.2 m means).0.means (before.2 m means).1 c.in_ok-carry_out.ensures.spends,
          then_held (Ok tt) c.args.limits.now c.args.schedule.now before.0 (c.read_line.result ∷ []) (stand_at (scene (engine c.args.machine.now) (g.F.PageFile.contents c.args.file.now) (g.K.Sink.contents c.args.sink.now)) (At m)) (scene (engine c.args.machine.now) (g.F.PageFile.contents c.args.file.now) (g.K.Sink.contents c.args.sink.now)) (scene (engine c.loop-line.machine) (g.F.PageFile.contents c.loop-line.file) (g.K.Sink.contents c.loop-line.sink)) (scene (engine c.carry_out.new.machine) (g.F.PageFile.contents c.carry_out.new.file) (g.K.Sink.contents c.carry_out.new.sink)) (before.2 m means).2 c.in_ok-carry_out.ensures.holds,
        ),
      );
    }

pub returns-in_err-carry_out-clause-spends : goal.returns-in_err-carry_out-clause-spends
returns-in_err-carry_out-clause-spends g c m means =
    let before = c.loop-line.invariant.carried in
    let e = c.in_err-carry_out.field-0.0 in
    let split : readings c.args.script.now ≡ (before.0 ++ c.read_line.result ∷ []) ++ readings c.in-Some.behind.now = one_read c.args.script.now c.loop-line.rest.now c.in-Some.line.now c.in-Some.behind.now before.0 c.read_line.result before.1 c.in-Some.ensures.lines c.read_line.ensures.says in
    let here = then_spends (Err e) c.args.limits.now.steps c.args.schedule.now (session_on (engine c.args.machine.now) m) before.0 (c.read_line.result ∷ []) (engine c.args.machine.now) (engine c.loop-line.machine) (engine c.carry_out.new.machine) (g.F.PageFile.contents c.loop-line.file) (g.F.PageFile.contents c.carry_out.new.file) (before.2 m means).0.steps (before.2 m means).0.means (before.2 m means).1 c.in_err-carry_out.ensures.spends in
    let all = spends_further e c.args.limits.now.steps c.args.schedule.now (session_on (engine c.args.machine.now) m) (before.0 ++ c.read_line.result ∷ []) (readings c.in-Some.behind.now) (engine c.args.machine.now) (engine c.carry_out.new.machine) (g.F.PageFile.contents c.carry_out.new.file) here in
    subst (λ (z : Result (Unit {0}) Stopped). Spends z c.args.limits.now.steps c.args.schedule.now (session_on (engine c.args.machine.now) m) (readings c.args.script.now) (engine c.args.machine.now) (engine c.carry_out.new.machine) (g.F.PageFile.contents c.carry_out.new.file)) (sym (err_same c.from_residual.result e c.from_residual.ensures.1))
    (subst (λ (z : List Line). Spends {T = Unit {0}} (Err e) c.args.limits.now.steps c.args.schedule.now (session_on (engine c.args.machine.now) m) z (engine c.args.machine.now) (engine c.carry_out.new.machine) (g.F.PageFile.contents c.carry_out.new.file)) (sym split) all)

pub returns-in_err-carry_out-clause-holds : goal.returns-in_err-carry_out-clause-holds
returns-in_err-carry_out-clause-holds g c m means =
    let before = c.loop-line.invariant.carried in
    let e = c.in_err-carry_out.field-0.0 in
    let split : readings c.args.script.now ≡ (before.0 ++ c.read_line.result ∷ []) ++ readings c.in-Some.behind.now = one_read c.args.script.now c.loop-line.rest.now c.in-Some.line.now c.in-Some.behind.now before.0 c.read_line.result before.1 c.in-Some.ensures.lines c.read_line.ensures.says in
    let here = then_held (Err e) c.args.limits.now c.args.schedule.now before.0 (c.read_line.result ∷ []) (stand_at (scene (engine c.args.machine.now) (g.F.PageFile.contents c.args.file.now) (g.K.Sink.contents c.args.sink.now)) (At m)) (scene (engine c.args.machine.now) (g.F.PageFile.contents c.args.file.now) (g.K.Sink.contents c.args.sink.now)) (scene (engine c.loop-line.machine) (g.F.PageFile.contents c.loop-line.file) (g.K.Sink.contents c.loop-line.sink)) (scene (engine c.carry_out.new.machine) (g.F.PageFile.contents c.carry_out.new.file) (g.K.Sink.contents c.carry_out.new.sink)) (before.2 m means).2 c.in_err-carry_out.ensures.holds in
    let all = held_further e (setting_of (scene (engine c.args.machine.now) (g.F.PageFile.contents c.args.file.now) (g.K.Sink.contents c.args.sink.now)) c.args.limits.now c.args.schedule.now) (before.0 ++ c.read_line.result ∷ []) (readings c.in-Some.behind.now) (stand_at (scene (engine c.args.machine.now) (g.F.PageFile.contents c.args.file.now) (g.K.Sink.contents c.args.sink.now)) (At m)) (scene (engine c.carry_out.new.machine) (g.F.PageFile.contents c.carry_out.new.file) (g.K.Sink.contents c.carry_out.new.sink)) here in
    subst (λ (z : Result (Unit {0}) Stopped). Holds z (setting_of (scene (engine c.args.machine.now) (g.F.PageFile.contents c.args.file.now) (g.K.Sink.contents c.args.sink.now)) c.args.limits.now c.args.schedule.now) (readings c.args.script.now) (stand_at (scene (engine c.args.machine.now) (g.F.PageFile.contents c.args.file.now) (g.K.Sink.contents c.args.sink.now)) (At m)) (scene (engine c.carry_out.new.machine) (g.F.PageFile.contents c.carry_out.new.file) (g.K.Sink.contents c.carry_out.new.sink))) (sym (err_same c.from_residual.result e c.from_residual.ensures.1))
    (subst (λ (z : List Line). Holds (Err e) (setting_of (scene (engine c.args.machine.now) (g.F.PageFile.contents c.args.file.now) (g.K.Sink.contents c.args.sink.now)) c.args.limits.now c.args.schedule.now) z (stand_at (scene (engine c.args.machine.now) (g.F.PageFile.contents c.args.file.now) (g.K.Sink.contents c.args.sink.now)) (At m)) (scene (engine c.carry_out.new.machine) (g.F.PageFile.contents c.carry_out.new.file) (g.K.Sink.contents c.carry_out.new.sink))) (sym split) all)

pub returns-in_err-carry_out-clause-causes : goal.returns-in_err-carry_out-clause-causes
returns-in_err-carry_out-clause-causes g c =
    let e = c.in_err-carry_out.field-0.0 in
    subst (λ (z : Result (Unit {0}) Stopped). Causes z (g.F.PageFile.faults c.args.file.now) (g.F.PageFile.faults c.carry_out.new.file) (g.K.Sink.faults c.args.sink.now) (g.K.Sink.faults c.carry_out.new.sink)) (sym (err_same c.from_residual.result e c.from_residual.ensures.1))
    (causes_then {T = Unit {0}} (Err e) _ _ _ _ _ _ c.loop-line.invariant.quiet c.loop-line.invariant.sunk c.in_err-carry_out.ensures.causes)
