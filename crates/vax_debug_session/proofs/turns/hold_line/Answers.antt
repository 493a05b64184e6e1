use Rattle.std.proofs.Common.{ℕ, true, List, [], ◌∷◌, sym, subst}
use Rattle.vax_input.specs.Lines.{Gives, IsAtEnd, Takes}
use Rattle.vax_machine.specs.Meaning.{engine}
use Rattle.vax_console.specs.Ends.{scene}
use Rattle.vax_debug_acts.specs.Pages.{pages_at}
use Rattle.vax_debug_session.specs.Exchanges.{exchange}
use Rattle.vax_debug_session.specs.Faults.{faults_of}
use Rattle.vax_debug_session.specs.Holding.{prompt, terms}
use Rattle.vax_debug_session.proofs.Failing.{asked_counts, failed_if_then, line_failed, unwritten}
use Rattle.vax_debug_session.proofs.Telling.{all_read, line_holds, prompted, unprompted, unread}
use Rattle.vax_console.proofs.Only.{only_then}
use Rattle.vax_debug_acts.proofs.Reported.{prefix_only, report_only}
use Rattle.vax_debug_session.proofs.turns.hold_line.Goals as goal

pub returns-in-Err-clause-holds : goal.returns-in-Err-clause-holds
returns-in-Err-clause-holds g c =
    unprompted (terms c.args.setting.now.limits.now c.args.setting.now.legend.now c.args.prompts) c.args.breaks.now c.args.breaks.now (engine c.args.machine.now) (g.F.PageFile.contents c.args.file.now) (g.K.Sink.contents c.args.sink.now) (g.K.Sink.contents c.write_prompt.new.sink) (g.L.Lines.rest c.args.lines.now) c.in-Err.ensures.prefix

pub returns-in-Err-clause-failed : goal.returns-in-Err-clause-failed
returns-in-Err-clause-failed g c =
    unwritten (g.F.PageFile.faults c.args.file.now) (g.K.Sink.faults c.args.sink.now) (g.K.Sink.faults c.write_prompt.new.sink) (g.L.Lines.faults c.args.lines.now) c.in-Err.ensures.counts

pub returns-in-Ok-true-clause-holds : goal.returns-in-Ok-true-clause-holds
returns-in-Ok-true-clause-holds g c =
    let given : Gives true (g.L.Lines.rest c.args.lines.now) (g.L.Lines.rest c.read_line.new.self) c.read_line.new.line = rw c.in-Ok-true.field-0-test at c.in-Ok-true.ensures.ok in
    let took : Takes (g.L.Lines.rest c.args.lines.now) (g.L.Lines.rest c.read_line.new.self) (c.as_slice.result.now ∷ []) = subst (λ (z : List ℕ). Takes (g.L.Lines.rest c.args.lines.now) (g.L.Lines.rest c.read_line.new.self) (z ∷ [])) (sym c.as_slice.ensures) given in
    line_holds c.answer_line.result (terms c.args.setting.now.limits.now c.args.setting.now.legend.now c.args.prompts) c.args.breaks.now c.answer_line.new.breaks (exchange c.as_slice.result.now (pages_at (engine c.args.machine.now))) (scene (engine c.args.machine.now) (g.F.PageFile.contents c.args.file.now) (g.K.Sink.contents c.args.sink.now)) (scene (engine c.args.machine.now) (g.F.PageFile.contents c.args.file.now) (g.K.Sink.contents c.write_prompt.new.sink)) (scene (engine c.answer_line.new.machine) (g.F.PageFile.contents c.answer_line.new.file) (g.K.Sink.contents c.answer_line.new.sink)) (g.L.Lines.rest c.args.lines.now) (g.L.Lines.rest c.read_line.new.self) (λ o s replies h. prompted o s replies (prompt c.args.prompts) (engine c.args.machine.now) (g.F.PageFile.contents c.args.file.now) (g.K.Sink.contents c.args.sink.now) (g.K.Sink.contents c.write_prompt.new.sink) c.in-Ok.ensures.ok h) took (c.answer_line.ensures.answers c.args.prompts)

pub returns-in-Ok-true-clause-failed : goal.returns-in-Ok-true-clause-failed
returns-in-Ok-true-clause-failed g c =
    failed_if_then c.answer_line.result (faults_of (g.F.PageFile.faults c.args.file.now) (g.K.Sink.faults c.args.sink.now) (g.L.Lines.faults c.args.lines.now)) (faults_of (g.F.PageFile.faults c.args.file.now) (g.K.Sink.faults c.write_prompt.new.sink) (g.L.Lines.faults c.read_line.new.self)) (faults_of (g.F.PageFile.faults c.answer_line.new.file) (g.K.Sink.faults c.answer_line.new.sink) (g.L.Lines.faults c.read_line.new.self)) (asked_counts (g.F.PageFile.faults c.args.file.now) (g.K.Sink.faults c.args.sink.now) (g.K.Sink.faults c.write_prompt.new.sink) (g.L.Lines.faults c.args.lines.now) (g.L.Lines.faults c.read_line.new.self) c.in-Ok.ensures.counts c.in-Ok-true.ensures.counts) (c.answer_line.ensures.failed (g.L.Lines.faults c.read_line.new.self))

pub returns-in-Ok-false-clause-holds : goal.returns-in-Ok-false-clause-holds
returns-in-Ok-false-clause-holds g c =
    let given : IsAtEnd (g.L.Lines.rest c.args.lines.now) (g.L.Lines.rest c.read_line.new.self) = rw c.in-Ok-false.field-0-test at c.in-Ok-false.ensures.ok in
    all_read (terms c.args.setting.now.limits.now c.args.setting.now.legend.now c.args.prompts) c.args.breaks.now c.args.breaks.now (scene (engine c.args.machine.now) (g.F.PageFile.contents c.args.file.now) (g.K.Sink.contents c.args.sink.now)) (scene (engine c.args.machine.now) (g.F.PageFile.contents c.args.file.now) (g.K.Sink.contents c.write_prompt.new.sink)) (g.L.Lines.rest c.args.lines.now) (g.L.Lines.rest c.read_line.new.self) (λ o s replies h. prompted o s replies (prompt c.args.prompts) (engine c.args.machine.now) (g.F.PageFile.contents c.args.file.now) (g.K.Sink.contents c.args.sink.now) (g.K.Sink.contents c.write_prompt.new.sink) c.in-Ok.ensures.ok h) given

pub returns-in-Ok-false-clause-failed : goal.returns-in-Ok-false-clause-failed
returns-in-Ok-false-clause-failed g c =
    asked_counts (g.F.PageFile.faults c.args.file.now) (g.K.Sink.faults c.args.sink.now) (g.K.Sink.faults c.write_prompt.new.sink) (g.L.Lines.faults c.args.lines.now) (g.L.Lines.faults c.read_line.new.self) c.in-Ok.ensures.counts c.in-Ok-false.ensures.counts

pub returns-in-Err-read_line-clause-holds : goal.returns-in-Err-read_line-clause-holds
returns-in-Err-read_line-clause-holds g c =
    unread (terms c.args.setting.now.limits.now c.args.setting.now.legend.now c.args.prompts) c.args.breaks.now c.args.breaks.now (scene (engine c.args.machine.now) (g.F.PageFile.contents c.args.file.now) (g.K.Sink.contents c.args.sink.now)) (scene (engine c.args.machine.now) (g.F.PageFile.contents c.args.file.now) (g.K.Sink.contents c.write_prompt.new.sink)) (g.L.Lines.rest c.args.lines.now) (g.L.Lines.rest c.read_line.new.self) (λ o s replies h. prompted o s replies (prompt c.args.prompts) (engine c.args.machine.now) (g.F.PageFile.contents c.args.file.now) (g.K.Sink.contents c.args.sink.now) (g.K.Sink.contents c.write_prompt.new.sink) c.in-Ok.ensures.ok h)

pub returns-in-Err-read_line-clause-failed : goal.returns-in-Err-read_line-clause-failed
returns-in-Err-read_line-clause-failed g c =
    line_failed (g.F.PageFile.faults c.args.file.now) (g.K.Sink.faults c.args.sink.now) (g.K.Sink.faults c.write_prompt.new.sink) (g.L.Lines.faults c.args.lines.now) (g.L.Lines.faults c.read_line.new.self) c.in-Ok.ensures.counts c.in-Err-read_line.ensures.counts

pub returns-in-Err-clause-only : goal.returns-in-Err-clause-only
returns-in-Err-clause-only g c = prefix_only _ _ _ c.in-Err.ensures.prefix

pub returns-in-Ok-true-clause-only : goal.returns-in-Ok-true-clause-only
returns-in-Ok-true-clause-only g c = only_then _ _ _ (report_only _ _ _ c.in-Ok.ensures.ok) c.answer_line.ensures.only

pub returns-in-Ok-false-clause-only : goal.returns-in-Ok-false-clause-only
returns-in-Ok-false-clause-only g c = report_only _ _ _ c.in-Ok.ensures.ok

pub returns-in-Err-read_line-clause-only : goal.returns-in-Err-read_line-clause-only
returns-in-Err-read_line-clause-only g c = report_only _ _ _ c.in-Ok.ensures.ok
