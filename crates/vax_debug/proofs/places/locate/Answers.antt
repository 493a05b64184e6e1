use Rattle.std.proofs.Common.{refl}
use Rattle.vax_outside.proofs.Counting.{counts_then}
use Rattle.vax_machine.specs.Meaning.{engine}
use Rattle.vax_console.specs.Ends.{scene}
use Rattle.vax_debug.proofs.Locating.{in_unknown, tells_located}
use Rattle.vax_debug.proofs.places.locate.Goals as goal

pub returns-in-Ok-Some-clause-tells : goal.returns-in-Ok-Some-clause-tells
returns-in-Ok-Some-clause-tells g c = λ sink.
    let v = scene (engine c.args.machine.now) (g.F.PageFile.contents c.args.file.now) sink in
    let w = scene (engine c.evaluate.new.machine) (g.F.PageFile.contents c.evaluate.new.file) sink in
    tells_located c.locate_at.result v w c.args.legend.now c.args.expression.now c.in-Ok-Some.address (c.evaluate.ensures.stays sink)
    ((rw c.in-Ok-Some.field-0-is at c.in-Ok-Some.ensures.tells) sink) (c.locate_at.ensures.tells sink)

pub returns-in-Ok-None-clause-tells : goal.returns-in-Ok-None-clause-tells
returns-in-Ok-None-clause-tells g c = λ sink o s replies here.
    in_unknown c.args.legend.now c.args.expression.now s.machine ((rw c.in-Ok-None.field-0-is at c.in-Ok-None.ensures.tells) sink o s replies here)

pub returns-in-Ok-Some-clause-stays : goal.returns-in-Ok-Some-clause-stays
returns-in-Ok-Some-clause-stays g c = λ sink o s replies here. c.locate_at.ensures.stays sink o s replies (c.evaluate.ensures.stays sink o s replies here)

pub returns-in-Ok-Some-clause-counts : goal.returns-in-Ok-Some-clause-counts
returns-in-Ok-Some-clause-counts g c = counts_then refl c.in-Ok-Some.ensures.counts.quiet c.locate_at.ensures.counts
