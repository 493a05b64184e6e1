use Rattle.vax_asm_laws.proofs.Walking.{label_lies}
use Rattle.vax_asm_laws.proofs.labels_name_what_stands_behind.Goals as goal

pub returns : goal.returns
returns c = λ h m i section is less found. label_lies h.dialect h.first h.rest h.middle h.end h.begin m i section is.before is.behind is.filled less found
