use Rattle.vax_jobs_bound.proofs.Few.{few_from_start, paid_all}
use Rattle.vax_jobs_bound.proofs.Fitting.{ready_fit}
use Rattle.vax_jobs_bound.proofs.laws.turns_are_few.Goals as goal

pub returns-clause-start : goal.returns-clause-start
returns-clause-start c = λ x starts count all. few_from_start x starts count all

pub returns-clause-anywhere : goal.returns-clause-anywhere
returns-clause-anywhere c = λ x r file s count ready. paid_all x count s (ready_fit x r file s ready)
