use Rattle.vax_asm_names.specs.ByName.{by_name}
use Rattle.vax_asm_names.specs.Content.{names_in}
use Rattle.vax_asm_names.proofs.Maps.{name_updates}
use Rattle.vax_asm_names.proofs.Undoing.{name_taken}
use Rattle.vax_asm_names.proofs.types.Content.take_last.Goals as goal

pub returns-in-Some : goal.returns-in-Some
returns-in-Some c =
    let old = c.args.self.now in
    name_taken (names_in old) old.names.items c.pop.new.self.items (by_name c.remove.new.self) c.in-Some.name c.in-Some.ensures.items
    (rw c.as_slice.ensures.value at (name_updates c.as_slice.result.now old.numbers c.remove.new.self _ c.remove.ensures.updates))
