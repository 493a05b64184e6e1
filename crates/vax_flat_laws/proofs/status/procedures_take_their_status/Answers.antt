use Rattle.vax_flat_laws.proofs.Statuses.{entry_is}
use Rattle.vax_flat_laws.proofs.status.procedures_take_their_status.Goals as goal

pub returns : goal.returns
returns c = λ mask psl. entry_is mask psl
