use Rattle.std.proofs.Common.{arith}
use Rattle.vax_word.specs.Status.{codes_number}
use Rattle.vax_word.proofs.StatusLemmas.{bits_made, codes_number_below}
use Rattle.vax_word.proofs.Codes.bits.Goals as goal

pub returns : goal.returns
unfolding codes_number
returns c =
    let made = bits_made c.args.self.n c.args.self.z c.args.self.v c.args.self.c in
    record { exact = made; within = omega (arith, made, codes_number_below c.args.self) }
