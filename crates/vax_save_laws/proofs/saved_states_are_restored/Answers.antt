use Rattle.vax_save_laws.proofs.Restoring.{saved_again, placed_again}
use Rattle.vax_save_laws.proofs.saved_states_are_restored.Goals as goal

pub returns-clause-bytes : goal.returns-clause-bytes
returns-clause-bytes c = λ place steps saveable. saved_again place steps saveable

pub returns-clause-place : goal.returns-clause-place
returns-clause-place c = λ place steps saveable. placed_again place steps saveable
