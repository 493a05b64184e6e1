use Rattle.std.proofs.Common.{refl}
use Rattle.vax_flat.specs.Parts.{At}
use Rattle.vax_machine.specs.Meaning.{engine}
use Rattle.vax_console.specs.Ends.{scene}
use Rattle.vax_debug.proofs.Staying.{looks_at, on_ok}
use Rattle.vax_debug.proofs.memory.examine.Goals as goal

pub returns-clause-shows : goal.returns-clause-shows
returns-clause-shows g c = λ sink. on_ok c.dump.result c.dump.ensures.bytes (λ shows o s replies here. shows (At s.machine) here.at.means)

pub returns-clause-stays : goal.returns-clause-stays
returns-clause-stays g c = λ sink o s replies here.
    looks_at o s replies (scene (engine c.args.machine.now) (g.F.PageFile.contents c.args.file.now) sink) (scene (engine c.dump.new.self) (g.F.PageFile.contents c.dump.new.file) sink) here refl c.dump.ensures.keeps c.dump.ensures.means
