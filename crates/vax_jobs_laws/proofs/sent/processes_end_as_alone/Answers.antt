use Rattle.vax_jobs_laws.proofs.Ended.{all_ended}
use Rattle.vax_jobs_laws.proofs.sent.processes_end_as_alone.Goals as goal

pub returns : goal.returns
returns c = λ x starts count h. all_ended x starts count h
