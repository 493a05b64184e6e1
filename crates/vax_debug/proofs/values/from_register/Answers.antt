use Rattle.std.proofs.Common.{ℕ, IfOk, Some, slice_index, subst}
use Rattle.vax_flat.specs.Step.{Flat}
use Rattle.vax_machine.specs.Meaning.{engine}
use Rattle.vax_console.specs.Ends.{scene}
use Rattle.vax_debug.specs.Calls.{TellsFrom}
use Rattle.vax_debug.specs.Values.{through}
use Rattle.vax_debug.proofs.Leading.{from_held}
use Rattle.vax_debug.proofs.values.from_register.Goals as goal

pub returns-clause-tells : goal.returns-clause-tells
returns-clause-tells g c = λ sink.
    let v = scene (engine c.args.machine.now) (g.F.PageFile.contents c.args.file.now) sink in
    subst (λ (n : ℕ). IfOk c.through.result (TellsFrom v (λ (m : Flat). through n m (Some (slice_index m.core.regs c.args.register))))) c.saturating_sub.ensures
    (from_held c.through.result v c.saturating_sub.result c.args.register c.held-address.result c.held-address.ensures (c.through.ensures.tells sink))
