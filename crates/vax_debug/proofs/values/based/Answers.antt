use Rattle.vax_machine.specs.Meaning.{engine}
use Rattle.vax_console.specs.Ends.{scene}
use Rattle.vax_debug_words.specs.declared.request.Base.TheVariants.{Register, Named}
use Rattle.vax_debug.proofs.Leading.{base_tells, name_tells}
use Rattle.vax_debug.proofs.values.based.Goals as goal

pub returns-in-Register-clause-tells : goal.returns-in-Register-clause-tells
returns-in-Register-clause-tells g c = λ sink.
    base_tells c.from_register.result (scene (engine c.args.machine.now) (g.F.PageFile.contents c.args.file.now) sink) c.args.legend.now c.args.count c.args.base.now (Register c.in-Register.register) c.in-Register.is (c.from_register.ensures.tells sink)

pub returns-in-Named-clause-tells : goal.returns-in-Named-clause-tells
returns-in-Named-clause-tells g c = λ sink.
    let v = scene (engine c.args.machine.now) (g.F.PageFile.contents c.args.file.now) sink in
    base_tells c.from_name.result v c.args.legend.now c.args.count c.args.base.now (Named c.in-Named.name) c.in-Named.is
    (name_tells c.from_name.result v c.args.legend.now c.args.count c.as_slice.result.now c.in-Named.name c.as_slice.ensures (c.from_name.ensures.tells sink))
