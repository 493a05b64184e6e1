use Rattle.vax_asm_names.proofs.Maps.{name_updates}
use Rattle.vax_asm_sections.proofs.layout.add_number.Goals as goal

pub returns-clause-added : goal.returns-clause-added
returns-clause-added c = rw c.in_ok-name.ensures at (name_updates c.in_ok-name.name.items c.args.numbers.now c.insert.new.self _ c.in_ok-insert.ensures.updates)
