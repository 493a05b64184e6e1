use Rattle.vax_machine_laws.proofs.Sufficing as proofs
use Rattle.vax_machine_laws.proofs.laws.turns_suffice.Goals as goal

pub returns : goal.returns
returns c = λ limits r count parts proper low goes stopped over. proofs.turns_suffice limits r count parts proper low goes stopped over
