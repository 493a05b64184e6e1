use Rattle.std.proofs.Common.{subst}
use Rattle.vax_cli.specs.Said.{options as said_options}
use Rattle.vax_cli.specs.Words.{Text}
use Rattle.vax_command.specs.Around.{change, outside}
use Rattle.vax_command.specs.ReadingView.{bytes_of, texts}
use Rattle.vax_command.specs.Loaded.{loaded_seen}
use Rattle.vax_command.specs.Running.{Ran}
use Rattle.vax_cli.specs.declared.command.Base.TheVariants.{User}
use Rattle.vax_prelude.specs.View.{preludes_seen}
use Rattle.vax_top.specs.Top.{session_loaded}
use Rattle.vax_top.proofs.TopLaws.{files_ran}
use Rattle.vax_top.proofs.commands.run_over.Goals as goal

pub returns-in-Ok-clause-ran : goal.returns-in-Ok-clause-ran
returns-in-Ok-clause-ran g c =
    let program = loaded_seen c.in-Ok.programs in
    let options = said_options c.args.options.now in
    let seen = outside (change g.K.Sink.faults g.K.Sink.contents c.args.sink.now c.run_programs.new.sink) (change g.F.PageFile.faults g.F.PageFile.contents c.args.pages.now c.run_programs.new.pages) in
    files_ran seen (session_loaded (preludes_seen c.args.preludes.now) options.dialect User (texts c.args.texts.now) (bytes_of c.args.given.system)) c.args.given.input.items c.args.given.schedule.items options c.run_programs.result
    program c.in-Ok.ensures.loads
    (subst (λ (schedule : Text). Ran seen program c.args.given.input.items schedule options c.run_programs.result) c.deref.ensures.value c.run_programs.ensures.ran)
