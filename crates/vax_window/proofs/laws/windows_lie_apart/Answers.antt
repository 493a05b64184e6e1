use Rattle.vax_window.proofs.Apart.{lie_apart}
use Rattle.vax_window.proofs.laws.windows_lie_apart.Goals as goal

pub returns : goal.returns
returns c = lie_apart
