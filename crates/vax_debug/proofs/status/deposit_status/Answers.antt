use Rattle.std.proofs.Common.{◌≡◌, true, false, sym, ◌∙◌}
use Rattle.vax_machine.specs.Meaning.{engine}
use Rattle.vax_console.specs.Ends.{scene}
use Rattle.vax_debug.specs.Status.{is_status, psl}
use Rattle.vax_debug.proofs.Staying.{never_open}
use Rattle.vax_debug.proofs.Statuses.{status_refused, status_set}
use Rattle.vax_debug.proofs.status.deposit_status.Goals as goal

pub returns-then-is_open : goal.returns-then-is_open
returns-then-is_open g c = λ sink o s replies here.
    absurd (never_open o s replies (scene (engine c.args.machine.now) (g.F.PageFile.contents c.args.file.now) sink) here (sym c.is_open.ensures ∙ c.if-is_open.true))

pub returns-then-is_status : goal.returns-then-is_status
returns-then-is_status g c = λ sink o s replies here.
    let may : is_status (psl c.args.value) ≡ true = sym c.is_status.ensures ∙ c.if-is_status.true in (
      sym may,
      status_set c.args.value c.with_stack_of-core.result o s replies (engine c.args.machine.now) (engine c.set_core.new.self) (g.F.PageFile.contents c.args.file.now) sink here may
          (λ x is. c.with_stack_of-core.ensures x (is ∙ sym c.core.ensures)) c.set_core.ensures.keeps c.set_core.ensures.deposits,
    )

pub returns-else-is_status : goal.returns-else-is_status
returns-else-is_status g c = λ sink o s replies here.
    let no : is_status (psl c.args.value) ≡ false = sym c.is_status.ensures ∙ c.if-is_status.false in
    (sym no, status_refused c.args.value o s replies (scene (engine c.args.machine.now) (g.F.PageFile.contents c.args.file.now) sink) here no)
