use Rattle.vax_flat.proofs.Attempts.{attempt_is_few}
use Rattle.vax_flat.proofs.Steps.{acts_whole, delivers_whole}
use Rattle.vax_flat.proofs.laws.steps_are_bounded.Goals as goal

pub returns : goal.returns
returns c = record { attempts = attempt_is_few; whole = acts_whole; delivery = delivers_whole }
