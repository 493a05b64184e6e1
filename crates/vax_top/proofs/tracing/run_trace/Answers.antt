use Rattle.std.proofs.Common.{ap, sym, subst, ◌∙◌}
use Rattle.vax_cli.specs.Said.{names_of, options as said_options, tracing as said_tracing}
use Rattle.vax_cli.specs.Words.{Text}
use Rattle.vax_command.specs.Around.{around, change, outside_of, with_preludes}
use Rattle.vax_command.specs.Loaded.{loaded_seen}
use Rattle.vax_command.specs.ReadingView.{bytes_of, given_seen, texts}
use Rattle.vax_command.specs.Tracing.{Traces}
use Rattle.vax_prelude.specs.View.{preludes_seen}
use Rattle.vax_top.specs.Top.{session_loaded, session_programs}
use Rattle.vax_top.proofs.TracingLaws.{trace_carries, trace_made}
use Rattle.vax_top.proofs.tracing.run_trace.Goals as goal

pub returns-in-Ok-load_session-clause-carries : goal.returns-in-Ok-load_session-clause-carries
returns-in-Ok-load_session-clause-carries g c =
    let names = names_of c.args.names.now in
    let options = said_options c.args.options.now in
    let tracing = said_tracing c.args.tracing.now in
    let files = given_seen (texts c.in-Ok.loaded.0.items) c.in-Ok.loaded.1 in
    let program = loaded_seen c.in-Ok-load_session.programs in
    let seen = with_preludes (preludes_seen c.args.preludes.now) (around (change g.S.Files.faults g.S.Files.contents c.args.files.now c.load_run.new.files) (change g.K.Sink.faults g.K.Sink.contents c.args.sink.now c.trace_programs.new.sink) (change g.F.PageFile.faults g.F.PageFile.contents c.args.pages.now c.trace_programs.new.pages)) in
    let made = subst (λ (schedule : Text). Traces (outside_of seen) program files.input schedule tracing options c.trace_programs.result) c.deref-in-Ok-load_session.ensures.value c.trace_programs.ensures.traces in
    trace_carries seen c.trace_programs.result names c.args.base tracing options files c.in-Ok.ensures.ok
    (trace_made (outside_of seen) (session_programs seen.preludes options.dialect c.args.base files) files tracing options c.trace_programs.result program
    (ap (λ read. session_loaded seen.preludes options.dialect c.args.base (texts read) (bytes_of c.in-Ok.loaded.1.system)) (sym c.deref.ensures.value) ∙ c.in-Ok-load_session.ensures.loads) made)
