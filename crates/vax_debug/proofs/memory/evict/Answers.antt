use Rattle.std.proofs.Common.{refl}
use Rattle.vax_machine.specs.Meaning.{engine}
use Rattle.vax_console.specs.Ends.{scene}
use Rattle.vax_debug.proofs.Staying.{evicts_at, evicts_out}
use Rattle.vax_debug.proofs.memory.evict.Goals as goal

pub returns-in-Failed-clause-stays : goal.returns-in-Failed-clause-stays
returns-in-Failed-clause-stays g c = λ sink o s replies here.
    evicts_at c.args.page c.apply.result o s replies (scene (engine c.args.machine.now) (g.F.PageFile.contents c.args.file.now) sink) (scene (engine c.apply.new.self) (g.F.PageFile.contents c.apply.new.file) sink) here refl c.apply.ensures.applies

pub returns-in_default-clause-stays : goal.returns-in_default-clause-stays
returns-in_default-clause-stays g c = λ sink o s replies here.
    evicts_at c.args.page c.apply.result o s replies (scene (engine c.args.machine.now) (g.F.PageFile.contents c.args.file.now) sink) (scene (engine c.apply.new.self) (g.F.PageFile.contents c.apply.new.file) sink) here refl c.apply.ensures.applies

pub returns-in_default-clause-evicts : goal.returns-in_default-clause-evicts
returns-in_default-clause-evicts g c = evicts_out c.args.page c.apply.result (engine c.args.machine.now) (engine c.apply.new.self) (g.F.PageFile.contents c.args.file.now) (g.F.PageFile.contents c.apply.new.file) c.in_default.not-Failed c.apply.ensures.applies
