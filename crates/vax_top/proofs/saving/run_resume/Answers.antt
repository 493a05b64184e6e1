use Rattle.std.proofs.Common.{[], subst}
use Rattle.vax_cli.specs.Said.{options as said_options}
use Rattle.vax_cli.specs.Words.{Text}
use Rattle.vax_command.specs.Around.{around, change, outside_of}
use Rattle.vax_command.specs.ReadingView.{given_seen}
use Rattle.vax_command.specs.Resuming.{HasResumed}
use Rattle.vax_top.proofs.TopLaws.{resume_carries}
use Rattle.vax_top.proofs.saving.run_resume.Goals as goal

pub returns-in-Ok-clause-carries : goal.returns-in-Ok-clause-carries
returns-in-Ok-clause-carries g c =
    let options = said_options c.args.options.now in
    let texts = given_seen [] c.in-Ok.given in
    let bytes = c.in-Ok.saved.items in
    let seen = around (change g.S.Files.faults g.S.Files.contents c.args.files.now c.load_saved.new.files) (change g.K.Sink.faults g.K.Sink.contents c.args.sink.now c.resume_run.new.sink) (change g.F.PageFile.faults g.F.PageFile.contents c.args.pages.now c.resume_run.new.pages) in
    let one = subst (λ (z : Text). HasResumed (outside_of seen) z c.deref-in-Ok.result.now options c.resume_run.result) c.deref.ensures.value c.resume_run.ensures.resumed in
    let both = subst (λ (z : Text). HasResumed (outside_of seen) bytes z options c.resume_run.result) c.deref-in-Ok.ensures.value one in
    resume_carries seen c.resume_run.result c.args.name.now options bytes texts c.in-Ok.ensures.ok both
