use Rattle.vax_tb.proofs.Places.{rights_resident}
use Rattle.vax_tb.proofs.buffer.entry_of.Goals as goal

pub returns-in-Resident-clause-rights : goal.returns-in-Resident-clause-rights
returns-in-Resident-clause-rights c = rights_resident _ _ _ _ _ c.rights_at_once.ensures
