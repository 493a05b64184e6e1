use Rattle.vax_jobs_bound.proofs.Few.{few_run_out}
use Rattle.vax_jobs_bound.proofs.laws.turns_run_out.Goals as goal

pub returns : goal.returns
returns c = λ x starts count all stopped. few_run_out x starts count all stopped
