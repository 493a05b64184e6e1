use Rattle.std.proofs.Common.{refl, ap, sym, ◌∙◌}
use Rattle.vax_machine.specs.Machine.{Keeping}
use Rattle.vax_machine.specs.Meaning.{engine}
use Rattle.vax_machine.specs.Console.{with_register}
use Rattle.vax_console.specs.Ends.{scene}
use Rattle.vax_debug.proofs.Staying.{changes_at, never_open}
use Rattle.vax_debug.proofs.memory.deposit_register.Goals as goal

pub returns-then-is_open : goal.returns-then-is_open
returns-then-is_open g c = λ sink o s replies here.
    absurd (never_open o s replies (scene (engine c.args.machine.now) (g.F.PageFile.contents c.args.file.now) sink) here (sym c.is_open.ensures ∙ c.if-is_open.true))

pub returns : goal.returns
returns g c = λ sink o s replies here. (
  refl,
  changes_at o s (with_register c.args.register c.args.value s.machine) replies (scene (engine c.args.machine.now) (g.F.PageFile.contents c.args.file.now) sink) (scene (engine c.set_reg.new.self) (g.F.PageFile.contents c.args.file.now) sink) here refl
      (ap (λ (k : Keeping). k.steps) c.set_reg.ensures.keeps) refl (c.set_reg.ensures.deposits (g.F.PageFile.contents c.args.file.now) s.machine here.at.means) (ap (λ (k : Keeping). k.residence.pinned) c.set_reg.ensures.keeps),
)
