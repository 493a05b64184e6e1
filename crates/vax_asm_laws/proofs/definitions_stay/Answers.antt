use Rattle.vax_asm_laws.proofs.Lasting.{all_stay}
use Rattle.vax_asm_laws.proofs.definitions_stay.Goals as goal

pub returns : goal.returns
returns c = λ h m is. all_stay h.middle h.end h.rest is.behind
