use Rattle.vax_window.proofs.Apart.{others_stay}
use Rattle.vax_window.proofs.laws.other_windows_stay.Goals as goal

pub returns : goal.returns
returns c = others_stay
