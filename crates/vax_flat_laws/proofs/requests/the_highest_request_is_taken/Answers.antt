use Rattle.vax_flat_laws.proofs.Requesting.{clock_first, software_highest, requested_is}
use Rattle.vax_flat_laws.proofs.requests.the_highest_request_is_taken.Goals as goal

pub returns : goal.returns
returns c = record { clock = clock_first; others = software_highest; made = requested_is }
