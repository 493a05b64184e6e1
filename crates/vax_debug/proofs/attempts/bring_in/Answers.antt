use Rattle.std.proofs.Common.{refl}
use Rattle.vax_machine.specs.Meaning.{engine}
use Rattle.vax_debug.proofs.Attempting.{let_go_here, served_at}
use Rattle.vax_debug.proofs.attempts.bring_in.Goals as goal

pub returns-in-Failed-clause-brings : goal.returns-in-Failed-clause-brings
returns-in-Failed-clause-brings g c = λ sink o s replies h.
    served_at c.apply.result o s replies (engine c.args.machine.now) (engine c.apply.new.self) (g.F.PageFile.contents c.args.file.now) (g.F.PageFile.contents c.apply.new.file) sink h c.apply.ensures.applies

pub returns-in_default-clause-brings : goal.returns-in_default-clause-brings
returns-in_default-clause-brings g c = λ sink o s replies h. (
  refl,
  let_go_here o s replies (engine c.apply.new.self) (engine c.let_go.new.self) (g.F.PageFile.contents c.apply.new.file) sink
      (served_at c.apply.result o s replies (engine c.args.machine.now) (engine c.apply.new.self) (g.F.PageFile.contents c.args.file.now) (g.F.PageFile.contents c.apply.new.file) sink h c.apply.ensures.applies)
      c.let_go.ensures.keeps (c.let_go.ensures.means (g.F.PageFile.contents c.apply.new.file)),
)
