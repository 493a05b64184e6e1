use Rattle.std.proofs.Common.{arith, refl}
use Rattle.vax_asm_names.specs.Content.{names_in}
use Rattle.vax_asm_names.proofs.Undoing.{name_restored}
use Rattle.vax_asm_names.proofs.types.Content.restore.Goals as goal

pub returns-in-Some : goal.returns-in-Some
returns-in-Some c =
    let old = c.args.self.now in
    name_restored (names_in old) old.names.items c.args.number c.args.was c.in-Some.name.now c.restore.new.self (omega (arith, old.names.ok.0, c.in-Some.ensures.variant.0 refl)) c.in-Some.ensures.value c.restore.ensures
