use Rattle.std.proofs.Common.{◌≡◌, ◌∙◌, [], Option, ap, refl}
use Rattle.vax_machine.specs.Open.{Open}
use Rattle.vax_report.specs.Report.{report}
use Rattle.vax_report.specs.declared.Last.{Last}
use Rattle.vax_machine.specs.Meaning.{engine, units_of}
use Rattle.vax_console.specs.Transcript.{last_of}
use Rattle.vax_console.specs.Ends.{scene, session_on}
use Rattle.vax_script.specs.declared.request.Request.TheVariants.{Show}
use Rattle.vax_script.specs.declared.request.Line.TheVariants.{Request as Asks}
use Rattle.vax_console.proofs.Spending.{none_same, simple_spends}
use Rattle.vax_console.proofs.Only.{reply_only}
use Rattle.vax_console.proofs.Replying.{replies_as}
use Rattle.vax_console.proofs.Requested.{show_goes}
use Rattle.vax_console.proofs.Turned.{show_held}
use Rattle.vax_console.proofs.requests.show.Goals as goal

pub returns-clause-goes : goal.returns-clause-goes
returns-clause-goes g c m means =
    let last : c.last_of.result ≡ last_of (engine c.args.machine.now).ended = c.last_of.ensures ∙ ap last_of c.ended.ensures in
    let said : report (engine c.args.machine.now).cpu.core c.last_of.result (engine c.args.machine.now).steps (units_of (engine c.args.machine.now).cpu.latch) (engine c.args.machine.now).cpu.term.place [] ≡ report (engine c.args.machine.now).cpu.core (last_of (engine c.args.machine.now).ended) (engine c.args.machine.now).steps 0 (engine c.args.machine.now).cpu.term.place [] =
    ap (λ (z : Last). report (engine c.args.machine.now).cpu.core z (engine c.args.machine.now).steps (units_of (engine c.args.machine.now).cpu.latch) (engine c.args.machine.now).cpu.term.place []) last
    ∙ ap (λ (z : Option Open). report (engine c.args.machine.now).cpu.core (last_of (engine c.args.machine.now).ended) (engine c.args.machine.now).steps (units_of z) (engine c.args.machine.now).cpu.term.place []) c.requires.between.closed in
    show_goes c.report.result c.args.limits.now m (engine c.args.machine.now) (g.F.PageFile.contents c.args.file.now) (g.K.Sink.faults c.args.sink.now) (g.K.Sink.faults c.report.new.sink) (g.K.Sink.contents c.args.sink.now) (g.K.Sink.contents c.report.new.sink) means
    (replies_as c.report.result (g.K.Sink.faults c.args.sink.now) (g.K.Sink.faults c.report.new.sink) (g.K.Sink.contents c.args.sink.now) (g.K.Sink.contents c.report.new.sink) _ _ said c.report.ensures)

pub returns-clause-only : goal.returns-clause-only
returns-clause-only g c = reply_only _ _ _ _ _ _ c.report.ensures

pub returns-clause-spends : goal.returns-clause-spends
returns-clause-spends g c rules m means =
    simple_spends c.report.result c.args.limits.now.steps rules (session_on (engine c.args.machine.now) m) (Asks Show) (engine c.args.machine.now) (engine c.args.machine.now) (g.F.PageFile.contents c.args.file.now) (g.K.Sink.faults c.args.sink.now) (g.K.Sink.faults c.report.new.sink) (g.K.Sink.contents c.args.sink.now) (g.K.Sink.contents c.report.new.sink) _ refl (none_same (engine c.args.machine.now)) c.report.ensures

pub returns-clause-holds : goal.returns-clause-holds
returns-clause-holds g c rules m means =
    let last : c.last_of.result ≡ last_of (engine c.args.machine.now).ended = c.last_of.ensures ∙ ap last_of c.ended.ensures in
    let said : report (engine c.args.machine.now).cpu.core c.last_of.result (engine c.args.machine.now).steps (units_of (engine c.args.machine.now).cpu.latch) (engine c.args.machine.now).cpu.term.place [] ≡ report (engine c.args.machine.now).cpu.core (last_of (engine c.args.machine.now).ended) (engine c.args.machine.now).steps 0 (engine c.args.machine.now).cpu.term.place [] =
    ap (λ (z : Last). report (engine c.args.machine.now).cpu.core z (engine c.args.machine.now).steps (units_of (engine c.args.machine.now).cpu.latch) (engine c.args.machine.now).cpu.term.place []) last
    ∙ ap (λ (z : Option Open). report (engine c.args.machine.now).cpu.core (last_of (engine c.args.machine.now).ended) (engine c.args.machine.now).steps (units_of z) (engine c.args.machine.now).cpu.term.place []) c.requires.between.closed in
    show_held c.report.result c.args.limits.now rules (scene (engine c.args.machine.now) (g.F.PageFile.contents c.args.file.now) (g.K.Sink.contents c.args.sink.now)) (scene (engine c.args.machine.now) (g.F.PageFile.contents c.args.file.now) (g.K.Sink.contents c.report.new.sink)) m (g.K.Sink.faults c.args.sink.now) (g.K.Sink.faults c.report.new.sink) refl refl means
    (replies_as c.report.result (g.K.Sink.faults c.args.sink.now) (g.K.Sink.faults c.report.new.sink) (g.K.Sink.contents c.args.sink.now) (g.K.Sink.contents c.report.new.sink) _ _ said c.report.ensures)
