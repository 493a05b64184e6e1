use Rattle.std.proofs.Common.{refl, subst, sym, length}
use Rattle.vax_jobs.specs.Beginning.{machines, pooling}
use Rattle.vax_cli.specs.Said.{jobs_options}
use Rattle.vax_command.specs.Around.{change, outside}
use Rattle.vax_command.specs.Ends.{Admits}
use Rattle.vax_command.specs.Jobs.{JobsRan, order_text}
use Rattle.vax_command.specs.JobsView.{together_seen}
use Rattle.vax_command.specs.ReadingView.{bytes_of}
use Rattle.vax_command.specs.declared.status.Status.{Status}
use Rattle.vax_command.specs.declared.status.Status.TheVariants.{PageFault}
use Rattle.vax_command.proofs.JobsLaws.{StartsSo, jobs_admit, jobs_ran, misordered}
use Rattle.vax_command.proofs.jobs.run_jobs.Goals as goal

pub returns-in-Ok-clause-ran : goal.returns-in-Ok-clause-ran
returns-in-Ok-clause-ran g c =
    let programs = together_seen c.args.programs.now in
    let options = jobs_options c.args.options.now in
    let input = c.args.given.now.input.items in
    let order = order_text (length programs.users) (bytes_of c.args.given.now.order) in
    let seen = outside (change g.K.Sink.faults g.K.Sink.contents c.args.sink.now c.run_and_report.new.sink) (change g.F.PageFile.faults g.F.PageFile.contents c.args.pages.now c.run_and_report.new.file) in
    let p = pooling c.in-Ok.jobs in
    let ms = machines c.in-Ok.jobs in
    let h = c.in-Ok.ensures.prepared in
    let starts : StartsSo programs input options p ms = record { ready = h.ready; most = h.most } in
    subst (λ (z : Status). JobsRan seen programs input order options z) (sym c.answer_to.ensures)
    (jobs_ran seen programs input order options p ms c.in-Ok.order starts c.run_and_report.result c.in-Ok.ensures.ordered c.run_and_report.ensures.reports c.run_and_report.ensures.only c.run_and_report.ensures.counts)

pub returns-in-Ok-clause-failed : goal.returns-in-Ok-clause-failed
returns-in-Ok-clause-failed g c =
    subst (λ (z : Status). Admits (g.F.PageFile.faults c.args.pages.now) (g.F.PageFile.faults c.run_and_report.new.file) PageFault z) (sym c.answer_to.ensures)
    (jobs_admit c.run_and_report.result _ _ _ _ c.run_and_report.ensures.counts)

pub returns-in-Err-clause-ran : goal.returns-in-Err-clause-ran
returns-in-Err-clause-ran g c =
    let programs = together_seen c.args.programs.now in
    let seen = outside (change g.K.Sink.faults g.K.Sink.contents c.args.sink.now c.refuse.new.sink) (change g.F.PageFile.faults g.F.PageFile.contents c.args.pages.now c.args.pages.now) in
    misordered seen programs c.args.given.now.input.items (order_text (length programs.users) (bytes_of c.args.given.now.order)) (jobs_options c.args.options.now) c.in-Err.status c.refuse.result refl c.in-Err.ensures.fault c.refuse.ensures
