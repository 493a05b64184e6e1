use Rattle.vax_machine_laws.proofs.Parting.{run_stages}
use Rattle.vax_machine_laws.proofs.laws.runs_come_by_parts.Goals as goal

pub returns : goal.returns
returns c = λ r count. run_stages r count
