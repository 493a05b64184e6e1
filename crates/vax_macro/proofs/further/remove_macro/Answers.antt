use Rattle.vax_macro.proofs.Maps.{macro_removed}
use Rattle.vax_macro.proofs.further.remove_macro.Goals as goal

pub returns : goal.returns
returns c = macro_removed c.args.name.now c.args.macros.now c.remove.new.self c.remove.ensures.updates
