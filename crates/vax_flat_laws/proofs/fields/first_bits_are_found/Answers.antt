use Rattle.vax_flat_laws.proofs.Fielding.{first_bit}
use Rattle.vax_flat_laws.proofs.fields.first_bits_are_found.Goals as goal

pub returns : goal.returns
returns c = λ set bits. first_bit set bits
