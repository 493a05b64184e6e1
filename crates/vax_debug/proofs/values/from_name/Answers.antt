use Rattle.std.proofs.Common.{Some}
use Rattle.vax_machine.specs.Meaning.{engine}
use Rattle.vax_console.specs.Ends.{scene}
use Rattle.vax_debug_names.specs.Names.{number_of}
use Rattle.vax_debug.proofs.Leading.{from_named, from_no_name}
use Rattle.vax_debug.proofs.values.from_name.Goals as goal

pub returns-in-Some-clause-tells : goal.returns-in-Some-clause-tells
returns-in-Some-clause-tells g c = λ sink. from_named c.through.result (scene (engine c.args.machine.now) (g.F.PageFile.contents c.args.file.now) sink) c.args.count (Some c.in-Some.address) (number_of c.args.legend.now.symbols.now c.args.name.now) c.in-Some.ensures (c.through.ensures.tells sink)

pub returns-in-None-clause-tells : goal.returns-in-None-clause-tells
returns-in-None-clause-tells g c = λ sink o s replies here. from_no_name c.args.count s.machine (number_of c.args.legend.now.symbols.now c.args.name.now) c.in-None.ensures
