use Rattle.std.proofs.Common.{[], None, List, refl, subst, ap, ◌∙◌}
use Rattle.vax_cli.specs.Said.{options as said_options}
use Rattle.vax_cli.specs.Words.{Text, work}
use Rattle.vax_command.specs.Around.{around, change, outside_of}
use Rattle.vax_command.specs.ReadingView.{given_seen, texts}
use Rattle.vax_cli.specs.declared.command.Base.TheVariants.{User}
use Rattle.vax_top.specs.Top.{RanOf, session_loaded, work_programs}
use Rattle.vax_top.proofs.TopLaws.{run_carries}
use Rattle.vax_top.proofs.commands.run_work.Goals as goal

pub returns-in-Ok-workload_files-clause-carries : goal.returns-in-Ok-workload_files-clause-carries
returns-in-Ok-workload_files-clause-carries g c =
    let options = said_options c.args.options.now in
    let files = given_seen [] c.in-Ok.given in
    let seen = around (change g.S.Files.faults g.S.Files.contents c.args.files.now c.load_options.new.files) (change g.K.Sink.faults g.K.Sink.contents c.args.sink.now c.run_over.new.sink) (change g.F.PageFile.faults g.F.PageFile.contents c.args.pages.now c.run_over.new.pages) in
    let ran = subst (λ (list : List Text). RanOf (outside_of seen) (session_loaded [] options.dialect User list None) files.input files.schedule options c.run_over.result) (ap texts c.deref.ensures.value ∙ c.in-Ok-workload_files.ensures) c.run_over.ensures.ran in
    run_carries seen c.run_over.result (work c.args.seed c.args.size options) [] options None (work_programs options.dialect c.args.seed c.args.size) files refl (λ list status grown d. d) c.in-Ok.ensures.ok ran
