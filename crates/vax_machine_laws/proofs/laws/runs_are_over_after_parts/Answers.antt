use Rattle.vax_machine_laws.proofs.Finishing.{run_over}
use Rattle.vax_machine_laws.proofs.laws.runs_are_over_after_parts.Goals as goal

pub returns : goal.returns
returns c = λ limit start. run_over limit start
