use Rattle.std.proofs.Common.{ap, subst, sym, ◌∙◌}
use Rattle.vax_cli.specs.Said.{names_of, options as said_options}
use Rattle.vax_cli.specs.Words.{Text}
use Rattle.vax_command.specs.Around.{around, change, outside_of, with_preludes}
use Rattle.vax_command.specs.Holding.{Held}
use Rattle.vax_command.specs.ReadingView.{bytes_of, given_seen, texts}
use Rattle.vax_command.specs.Loaded.{loaded_seen}
use Rattle.vax_prelude.specs.View.{preludes_seen}
use Rattle.vax_top.specs.Top.{session_loaded, session_programs}
use Rattle.vax_top.proofs.TopLaws.{session_carries, session_held}
use Rattle.vax_top.proofs.console.run_console.Goals as goal

pub returns-in-Ok-load_session-clause-carries : goal.returns-in-Ok-load_session-clause-carries
returns-in-Ok-load_session-clause-carries g c =
    let names = names_of c.args.names.now in
    let options = said_options c.args.options.now in
    let files = given_seen (texts c.in-Ok.loaded.0.items) c.in-Ok.loaded.1 in
    let program = loaded_seen c.in-Ok-load_session.programs in
    let seen = with_preludes (preludes_seen c.args.preludes.now) (around (change g.S.Files.faults g.S.Files.contents c.args.files.now c.load_run.new.files) (change g.K.Sink.faults g.K.Sink.contents c.args.sink.now c.hold_session.new.sink) (change g.F.PageFile.faults g.F.PageFile.contents c.args.pages.now c.hold_session.new.pages)) in
    let planned = subst (λ (schedule : Text). Held (outside_of seen) program files.input schedule c.deref-in-Ok-load_session-2.result.now options c.hold_session.result) c.deref-in-Ok-load_session.ensures.value c.hold_session.ensures.held in
    let held = subst (λ (script : Text). Held (outside_of seen) program files.input files.schedule script options c.hold_session.result) c.deref-in-Ok-load_session-2.ensures.value planned in
    session_carries seen c.hold_session.result names c.args.base c.args.script.now options files c.in-Ok.ensures.ok
    (session_held (outside_of seen) (session_programs seen.preludes options.dialect c.args.base files) files options c.hold_session.result program
    (ap (λ read. session_loaded seen.preludes options.dialect c.args.base (texts read) (bytes_of c.in-Ok.loaded.1.system)) (sym c.deref.ensures.value) ∙ c.in-Ok-load_session.ensures.loads) held)
