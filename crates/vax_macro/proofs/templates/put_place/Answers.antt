use Rattle.std.proofs.Common.{Some}
use Rattle.vax_macro.proofs.Maps.{name_updates}
use Rattle.vax_macro.proofs.templates.put_place.Goals as goal

pub returns : goal.returns
returns c = name_updates c.args.name.items c.args.index.now c.insert.new.self (Some c.args.place) c.in-Ok.ensures.updates
