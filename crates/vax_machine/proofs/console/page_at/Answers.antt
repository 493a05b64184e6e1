use Rattle.std.proofs.Common.{refl}
use Rattle.vax_machine.proofs.Bringing.{none_read}
use Rattle.vax_machine.proofs.console.page_at.Goals as goal

pub returns-else-is_other-clause-once : goal.returns-else-is_other-clause-once
returns-else-is_other-clause-once g c = none_read _ _ _ refl
