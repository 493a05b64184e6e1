use Rattle.vax_flat_laws.proofs.Handling.{is_taken_back}
use Rattle.vax_flat_laws.proofs.Endings.{accepted}
use Rattle.vax_flat_laws.proofs.deliveries.rei_refuses_all_others.Goals as goal

pub returns : goal.returns
returns c = record { accepts = is_taken_back; refuses = accepted }
