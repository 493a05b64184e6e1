use Rattle.vax_asm_laws.proofs.Walking.{part_stands}
use Rattle.vax_asm_laws.proofs.parts_stand_where_they_were_counted.Goals as goal

pub returns : goal.returns
returns c = λ h m i section p is less found held. part_stands h m i section p is less found held
