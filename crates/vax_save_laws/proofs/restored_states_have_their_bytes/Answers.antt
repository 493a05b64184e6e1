use Rattle.vax_save_laws.proofs.TakingState.{restored_again}
use Rattle.vax_save_laws.proofs.restored_states_have_their_bytes.Goals as goal

pub returns : goal.returns
returns c = λ bytes r output fits read. restored_again bytes r output fits read
