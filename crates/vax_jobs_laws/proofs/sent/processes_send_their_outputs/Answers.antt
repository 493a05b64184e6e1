use Rattle.vax_jobs_laws.proofs.Outputs.{sent_all}
use Rattle.vax_jobs_laws.proofs.sent.processes_send_their_outputs.Goals as goal

pub returns : goal.returns
returns c = λ x starts count. sent_all x starts count
