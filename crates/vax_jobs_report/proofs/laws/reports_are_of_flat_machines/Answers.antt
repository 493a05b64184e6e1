use Rattle.vax_jobs_report.proofs.Reporting.{same_reports}
use Rattle.vax_jobs_report.proofs.laws.reports_are_of_flat_machines.Goals as goal

pub returns : goal.returns
returns c = λ limit other y processes is h. same_reports limit other y processes is h
