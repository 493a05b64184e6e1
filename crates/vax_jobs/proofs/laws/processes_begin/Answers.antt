use Rattle.vax_jobs.proofs.Readying.{ready}
use Rattle.vax_jobs.proofs.laws.processes_begin.Goals as goal

pub returns : goal.returns
returns c = λ jobs most r x file h. ready jobs most r x file h
