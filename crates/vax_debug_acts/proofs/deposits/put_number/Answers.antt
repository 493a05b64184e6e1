use Rattle.std.proofs.Common.{◌≡◌, ◌∙◌, Bool, true, false, if◌then◌else◌, sym, subst}
use Rattle.vax_machine.specs.Meaning.{engine}
use Rattle.vax_console.specs.Ends.{scene}
use Rattle.vax_debug_acts.specs.Acting.{Acts}
use Rattle.vax_debug_acts.specs.Acts.{fits, number_bytes, only_told, put_act, too_large_line}
use Rattle.vax_debug_acts.proofs.Telling.{done, reply_only, tells}
use Rattle.vax_debug_acts.proofs.deposits.put_number.Goals as goal

pub returns-then-fits-clause-acts : goal.returns-then-fits-clause-acts
returns-then-fits-clause-acts g c = λ limits o s replies here.
    let w = scene (engine c.put_bytes.new.machine) (g.F.PageFile.contents c.put_bytes.new.file) (g.K.Sink.contents c.put_bytes.new.sink) in
    let is : true ≡ fits c.args.size c.args.number = sym c.if-fits.true ∙ c.fits.ensures in
    subst (λ (z : Bool). Acts c.put_bytes.result limits.turns (if z then put_act c.args.address (number_bytes c.args.size c.args.number) s else only_told s too_large_line) o s replies w) is (c.put_bytes.ensures.acts limits o s replies here)

pub returns-else-fits-clause-acts : goal.returns-else-fits-clause-acts
returns-else-fits-clause-acts g c = λ limits o s replies here.
    let w = scene (engine c.args.machine.now) (g.F.PageFile.contents c.args.file.now) (g.K.Sink.contents c.tell_too_large.new.sink) in
    let is : false ≡ fits c.args.size c.args.number = sym c.if-fits.false ∙ c.fits.ensures in
    subst (λ (z : Bool). Acts c.tell_too_large.result limits.turns (if z then put_act c.args.address (number_bytes c.args.size c.args.number) s else only_told s too_large_line) o s replies w) is
    (done c.tell_too_large.result limits.turns 0 o s s replies too_large_line w
    (tells c.tell_too_large.result (g.K.Sink.faults c.args.sink.now) (g.K.Sink.faults c.tell_too_large.new.sink) o s replies too_large_line (engine c.args.machine.now) (g.F.PageFile.contents c.args.file.now) (g.K.Sink.contents c.args.sink.now) (g.K.Sink.contents c.tell_too_large.new.sink) here c.tell_too_large.ensures))

pub returns-else-fits-clause-only : goal.returns-else-fits-clause-only
returns-else-fits-clause-only g c = reply_only _ _ _ _ _ _ c.tell_too_large.ensures
