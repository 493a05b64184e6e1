use Rattle.vax_jobs_laws.proofs.Whole.{done_whole}
use Rattle.vax_jobs_laws.proofs.laws.processes_end_whole.Goals as goal

pub returns : goal.returns
returns c = λ x starts count h. done_whole x starts count h
