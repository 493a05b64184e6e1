use Rattle.vax_jobs_laws.proofs.Whole.{end_whole, reach_all}
use Rattle.vax_jobs_laws.proofs.laws.processes_reach_their_runs.Goals as goal

pub returns-clause-reaches : goal.returns-clause-reaches
returns-clause-reaches c = λ x starts count. reach_all x starts count

pub returns-clause-whole : goal.returns-clause-whole
returns-clause-whole c = λ x starts count. end_whole x starts count
