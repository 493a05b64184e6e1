use Rattle.vax_jobs_laws.proofs.Ended.{ends_alike}
use Rattle.vax_jobs_laws.proofs.sent.runs_end_alike.Goals as goal

pub returns : goal.returns
returns c = λ limit start a b x y. ends_alike limit start a b x y
