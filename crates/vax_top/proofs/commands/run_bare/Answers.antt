use Rattle.std.proofs.Common.{None, ap, refl, subst, sym, ◌∙◌}
use Rattle.vax_cli.specs.Said.{names_of, options as said_options}
use Rattle.vax_cli.specs.Words.{Text, bare}
use Rattle.vax_cli.specs.declared.command.Base.TheVariants.{Bare}
use Rattle.vax_command.specs.Around.{around, change, outside_of, with_preludes}
use Rattle.vax_command.specs.ReadingView.{bytes_of, given_seen, texts}
use Rattle.vax_command.specs.Loaded.{loaded_seen}
use Rattle.vax_command.specs.Running.{Ran}
use Rattle.vax_prelude.specs.View.{preludes_seen}
use Rattle.vax_top.specs.Top.{bare_programs, session_loaded}
use Rattle.vax_top.proofs.TopLaws.{files_ran, run_carries}
use Rattle.vax_top.proofs.commands.run_bare.Goals as goal

pub returns-in-Ok-load_session-clause-carries : goal.returns-in-Ok-load_session-clause-carries
returns-in-Ok-load_session-clause-carries g c =
    let names = names_of c.args.names.now in
    let options = said_options c.args.options.now in
    let files = given_seen (texts c.in-Ok.loaded.0.items) c.in-Ok.loaded.1 in
    let program = loaded_seen c.in-Ok-load_session.programs in
    let seen = with_preludes (preludes_seen c.args.preludes.now) (around (change g.S.Files.faults g.S.Files.contents c.args.files.now c.load_run.new.files) (change g.K.Sink.faults g.K.Sink.contents c.args.sink.now c.run_programs.new.sink) (change g.F.PageFile.faults g.F.PageFile.contents c.args.pages.now c.run_programs.new.pages)) in
    let ran = subst (λ (schedule : Text). Ran (outside_of seen) program files.input schedule options c.run_programs.result) c.deref-in-Ok-load_session.ensures.value c.run_programs.ensures.ran in
    run_carries seen c.run_programs.result (bare names options) names options None (bare_programs seen.preludes options.dialect) files refl (λ list status grown d. d) c.in-Ok.ensures.ok
    (files_ran (outside_of seen) (bare_programs seen.preludes options.dialect files) files.input files.schedule options c.run_programs.result program (ap (λ texts_read. session_loaded seen.preludes options.dialect Bare (texts texts_read) (bytes_of c.in-Ok.loaded.1.system)) (sym c.deref.ensures.value) ∙ c.in-Ok-load_session.ensures.loads) ran)
