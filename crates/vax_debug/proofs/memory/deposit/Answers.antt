use Rattle.std.proofs.Common.{refl, sym, ◌∙◌}
use Rattle.vax_machine.specs.Meaning.{engine}
use Rattle.vax_console.specs.Ends.{scene}
use Rattle.vax_debug.proofs.Staying.{deposits_at, never_open}
use Rattle.vax_debug.proofs.memory.deposit.Goals as goal

pub returns-then-is_open-clause-deposits : goal.returns-then-is_open-clause-deposits
returns-then-is_open-clause-deposits g c = λ sink o s replies here.
    absurd (never_open o s replies (scene (engine c.args.machine.now) (g.F.PageFile.contents c.args.file.now) sink) here (sym c.is_open.ensures ∙ c.if-is_open.true))

pub returns-clause-deposits : goal.returns-clause-deposits
returns-clause-deposits g c = λ sink o s replies here.
    deposits_at c.args.addr c.args.bytes.now c.poke.result o s replies (scene (engine c.args.machine.now) (g.F.PageFile.contents c.args.file.now) sink) (scene (engine c.poke.new.self) (g.F.PageFile.contents c.poke.new.file) sink) here refl c.poke.ensures.answer c.poke.ensures.deposits
