use Rattle.std.proofs.Common.{◌≡◌, ◌∙◌, Result, Err, ap, subst}
use Rattle.vax_machine.specs.Meaning.{engine}
use Rattle.vax_script.specs.Requests.{readings}
use Rattle.vax_console.specs.Ends.{Goes, session_on}
use Rattle.vax_console.specs.Parts.{Spends}
use Rattle.vax_console.specs.declared.stopped.Stopped.{Stopped}
use Rattle.vax_console.specs.declared.stopped.Stopped.TheVariants as stopped
use Rattle.vax_console.proofs.Completing.{turns_short}
use Rattle.vax_console.proofs.session.Goals as goal

pub returns-in-Err-Turns-clause-few : goal.returns-in-Err-Turns-clause-few
returns-in-Err-Turns-clause-few g c = λ m means.
    let e : c.carry_out_all.result ≡ Err stopped.Turns = c.in-Err-Turns.is ∙ ap (λ (x : Stopped). Err x) c.in-Err-Turns.field-0-is in
    subst (λ (z : Result (Unit {0}) Stopped). Spends z c.args.limits.now.steps c.args.schedule.now (session_on (engine c.args.machine.now) m) (readings c.args.script.now) (engine c.args.machine.now) (engine c.carry_out_all.new.machine) (g.F.PageFile.contents c.carry_out_all.new.file)) e (c.carry_out_all.ensures.spends m means)

pub returns-in-Err-Turns-clause-complete : goal.returns-in-Err-Turns-clause-complete
returns-in-Err-Turns-clause-complete g c = λ is m parts means have low.
    let e : c.carry_out_all.result ≡ Err stopped.Turns = c.in-Err-Turns.is ∙ ap (λ (x : Stopped). Err x) c.in-Err-Turns.field-0-is in
    let spends = subst (λ (z : Result (Unit {0}) Stopped). Spends z c.args.limits.now.steps c.args.schedule.now (session_on (engine c.args.machine.now) m) (readings c.args.script.now) (engine c.args.machine.now) (engine c.carry_out_all.new.machine) (g.F.PageFile.contents c.carry_out_all.new.file)) e (c.carry_out_all.ensures.spends m means) in
    let goes = subst (λ (z : Result (Unit {0}) Stopped). Goes z c.args.limits.now (session_on (engine c.args.machine.now) m) (readings c.args.script.now) (engine c.carry_out_all.new.machine) (g.F.PageFile.contents c.carry_out_all.new.file) (g.K.Sink.contents c.args.sink.now) (g.K.Sink.contents c.carry_out_all.new.sink)) e (c.carry_out_all.ensures.goes m means) in
    turns_short c.args.limits.now.steps c.args.limits.now.turns c.args.schedule.now (session_on (engine c.args.machine.now) m) (readings c.args.script.now) (engine c.args.machine.now) (engine c.carry_out_all.new.machine) (g.F.PageFile.contents c.carry_out_all.new.file) parts
    spends have goes.out.reached low
