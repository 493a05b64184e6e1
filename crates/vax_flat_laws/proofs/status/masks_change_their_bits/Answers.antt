use Rattle.vax_flat_laws.proofs.Statuses.{is_set, is_cleared, set_refused, cleared_refused}
use Rattle.vax_flat_laws.proofs.status.masks_change_their_bits.Goals as goal

pub returns : goal.returns
returns c = record { set = is_set; cleared = is_cleared; refused = set_refused; wide = cleared_refused }
