use Rattle.std.proofs.Common.{◌-◌, sym, ap, subst, ◌∙◌, slice_index, slice_set}
use Rattle.vax_word.specs.declared.Core.{Core}
use Rattle.vax_flat.specs.State.{register, with_register}
use Rattle.vax_flat.specs.Operand.{plus}
use Rattle.vax_flat.specs.OverPort.{over_port}
use Rattle.vax_quick.specs.Made.{IsSeen, at_console}
use Rattle.vax_quick.proofs.Windows.{fetched_seen, passed}
use Rattle.vax_quick.proofs.window.taken.Goals as goal

pub returns-clause-exact : goal.returns-clause-exact
returns-clause-exact g c = λ input taken sent next.
    let view = g.P.Port.view c.args.port.now in
    let s = at_console c.args.core.now input taken sent in
    let n = c.args.n in
    fetched_seen view s c.args.window n c.requires.enough c.requires.window next
    ∙ ap (λ x. over_port (next x (with_register s 15 (plus (register s 15) n))) view) (sym c.first.ensures.exact)

pub returns-clause-left : goal.returns-clause-left
returns-clause-left g c =
    let view = g.P.Port.view c.args.port.now in
    let core = c.args.core.now in
    let n = c.args.n in
    let on : Core = record core { regs = slice_set core.regs 15 (plus (slice_index core.regs 15) n) } in
    subst (λ b. IsSeen view on (record { bytes = b; left = c.args.window.left - n })) (sym c.behind-bytes.ensures) (passed view core c.args.window n c.requires.enough c.requires.window)
