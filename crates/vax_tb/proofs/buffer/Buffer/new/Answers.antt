use Rattle.std.proofs.Common.{refl}
use Rattle.vax_tb.proofs.Places.{new_sound, new_empty}
use Rattle.vax_tb.proofs.buffer.Buffer.new.Goals as goal

pub invariant_of-result : goal.invariant_of-result
invariant_of-result c = record { sound = new_sound 128 _ refl c.none.ensures.rights }

pub returns-clause-entries : goal.returns-clause-entries
returns-clause-entries c = new_empty 128 _ c.none.ensures.said
