use Rattle.vax_jobs.proofs.Alone.{follow_all}
use Rattle.vax_jobs.proofs.laws.processes_follow_their_runs.Goals as goal

pub returns : goal.returns
returns c = λ x starts count. follow_all x starts count
