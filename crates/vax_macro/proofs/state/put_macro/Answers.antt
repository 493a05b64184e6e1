use Rattle.vax_macro.proofs.Maps.{macro_updates}
use Rattle.vax_macro.proofs.state.put_macro.Goals as goal

pub returns-in-Ok : goal.returns-in-Ok
returns-in-Ok c = macro_updates c.args.name.items c.args.macros.now c.insert.new.self c.args.template c.in-Ok.ensures.updates
