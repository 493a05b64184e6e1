use Rattle.std.proofs.Common.{Some, sym, subst}
use Rattle.vax_machine.specs.Meaning.{engine}
use Rattle.vax_console.specs.Ends.{scene}
use Rattle.vax_debug_acts.specs.Pages.{pages_at}
use Rattle.vax_debug_session.specs.Exchanges.{exchange}
use Rattle.vax_debug_session.specs.Faults.{FailedIf, faults_of}
use Rattle.vax_debug_session.specs.Holding.{terms}
use Rattle.vax_debug_session.specs.Turns.{Answers}
use Rattle.vax_debug_session.specs.declared.SessionEnd.{SessionEnd}
use Rattle.vax_debug_session.proofs.Failing.{failure_counted, none_counted}
use Rattle.vax_debug_session.proofs.Telling.{asks_end_by, carries, cuts, end_unfailed}
use Rattle.vax_console.proofs.Only.{only_none}
use Rattle.vax_debug_session.proofs.turns.answer_line.Goals as goal

pub returns-in-Some-clause-answers : goal.returns-in-Some-clause-answers
returns-in-Some-clause-answers g c =
    λ prompts. asks_end_by c.in-Some.end (terms c.args.setting.now.limits.now c.args.setting.now.legend.now prompts) c.args.breaks.now (exchange c.args.line.now (pages_at (engine c.args.machine.now))) c.read_line-said.result (scene (engine c.args.machine.now) (g.F.PageFile.contents c.args.file.now) (g.K.Sink.contents c.args.sink.now)) c.read_line-said.ensures.says (sym c.in-Some.ensures)

pub returns-in-Ok-clause-answers : goal.returns-in-Ok-clause-answers
returns-in-Ok-clause-answers g c =
    λ prompts. carries (terms c.args.setting.now.limits.now c.args.setting.now.legend.now prompts) c.args.breaks.now c.carry_out.new.breaks (exchange c.args.line.now (pages_at (engine c.args.machine.now))) c.read_line-said.result (scene (engine c.args.machine.now) (g.F.PageFile.contents c.args.file.now) (g.K.Sink.contents c.args.sink.now)) (scene (engine c.carry_out.new.machine) (g.F.PageFile.contents c.carry_out.new.file) (g.K.Sink.contents c.carry_out.new.sink)) tt c.read_line-said.ensures.says (sym c.in-None.ensures) c.in-Ok.ensures.acts c.in-Ok.ensures.breaks

pub returns-in-Err-clause-answers : goal.returns-in-Err-clause-answers
returns-in-Err-clause-answers g c =
    λ prompts.
    subst (λ (z : SessionEnd). Answers (Some z) (terms c.args.setting.now.limits.now c.args.setting.now.legend.now prompts) c.args.breaks.now c.carry_out.new.breaks (exchange c.args.line.now (pages_at (engine c.args.machine.now))) (scene (engine c.args.machine.now) (g.F.PageFile.contents c.args.file.now) (g.K.Sink.contents c.args.sink.now)) (scene (engine c.carry_out.new.machine) (g.F.PageFile.contents c.carry_out.new.file) (g.K.Sink.contents c.carry_out.new.sink))) (sym c.end_of.ensures)
    (cuts c.in-Err.failure (terms c.args.setting.now.limits.now c.args.setting.now.legend.now prompts) c.args.breaks.now c.carry_out.new.breaks (exchange c.args.line.now (pages_at (engine c.args.machine.now))) c.read_line-said.result (scene (engine c.args.machine.now) (g.F.PageFile.contents c.args.file.now) (g.K.Sink.contents c.args.sink.now)) (scene (engine c.carry_out.new.machine) (g.F.PageFile.contents c.carry_out.new.file) (g.K.Sink.contents c.carry_out.new.sink)) c.read_line-said.ensures.says (sym c.in-None.ensures) c.in-Err.ensures.acts)

pub returns-in-Some-clause-failed : goal.returns-in-Some-clause-failed
returns-in-Some-clause-failed g c =
    λ lines. end_unfailed c.in-Some.end c.read_line-said.result (faults_of (g.F.PageFile.faults c.args.file.now) (g.K.Sink.faults c.args.sink.now) lines) (sym c.in-Some.ensures)

pub returns-in-Ok-clause-failed : goal.returns-in-Ok-clause-failed
returns-in-Ok-clause-failed g c =
    λ lines. none_counted tt (g.F.PageFile.faults c.args.file.now) (g.F.PageFile.faults c.carry_out.new.file) (g.K.Sink.faults c.args.sink.now) (g.K.Sink.faults c.carry_out.new.sink) lines c.in-Ok.ensures.counts

pub returns-in-Err-clause-failed : goal.returns-in-Err-clause-failed
returns-in-Err-clause-failed g c =
    λ lines.
    subst (λ (z : SessionEnd). FailedIf (Some z) (faults_of (g.F.PageFile.faults c.args.file.now) (g.K.Sink.faults c.args.sink.now) lines) (faults_of (g.F.PageFile.faults c.carry_out.new.file) (g.K.Sink.faults c.carry_out.new.sink) lines)) (sym c.end_of.ensures)
    (failure_counted c.in-Err.failure (g.F.PageFile.faults c.args.file.now) (g.F.PageFile.faults c.carry_out.new.file) (g.K.Sink.faults c.args.sink.now) (g.K.Sink.faults c.carry_out.new.sink) lines c.in-Err.ensures.counts)

pub returns-in-Some-clause-only : goal.returns-in-Some-clause-only
returns-in-Some-clause-only g c = only_none _
