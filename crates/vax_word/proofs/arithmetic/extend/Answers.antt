use Rattle.std.proofs.Common.{◌≡◌, ◌*◌, ◌%◌, ◌-◌, ◌^◌, rules, w64, FitsSigned, to_z, of_z}
use Rattle.std.specs.Int.Signed.{shr_z}
use Rattle.std.proofs.lemmas.Int.{to_z-of_z}
use Rattle.vax_word.proofs.OperandLemmas.{shifts_extend}
use Rattle.vax_word.specs.Arithmetic.{signed}
use Rattle.vax_word.proofs.arithmetic.extend.Goals as goal

pub returns-clause-exact : goal.returns-clause-exact
returns-clause-exact c =
    let cast = c.cast_signed.result in
    let places = 64 - c.bits-unused.result in
    let cast_fits : FitsSigned w64 cast = search rules in
    let fits : FitsSigned w64 (shr_z cast (2 ^ places)) = search rules in
    let read : to_z w64 (of_z w64 cast) ≡ cast = to_z-of_z _ _ cast_fits in
    let shifts : shr_z (to_z w64 (c.args.x * 2 ^ places % 18446744073709551616)) (2 ^ places) ≡ signed c.args.size c.args.x =
    rw c.bits-unused.ensures (shifts_extend _ _ c.requires) in
    rw (read, to_z-of_z _ _ fits, c.cast_signed.ensures) shifts
