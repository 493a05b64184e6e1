use Rattle.vax_bare.proofs.Resident.{all_resident_at_start}
use Rattle.vax_bare.proofs.start.memory_of.Goals as goal

pub returns-clause-resident : goal.returns-clause-resident
returns-clause-resident c = all_resident_at_start c.in_ok-space.space c.new.result c.new.ensures.areas c.new.ensures.resident
