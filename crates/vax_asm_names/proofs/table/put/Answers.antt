use Rattle.vax_asm_names.proofs.Maps.{name_updates}
use Rattle.vax_asm_names.proofs.table.put.Goals as goal

pub returns-in-Ok-clause-put : goal.returns-in-Ok-clause-put
returns-in-Ok-clause-put g c = rw c.in_ok-key.ensures at (name_updates c.in_ok-key.key.items c.args.map.now c.insert.new.self _ c.in-Ok.ensures.updates)
