use Rattle.std.proofs.Common.{subst}
use Rattle.std.specs.Prelude.{Err}
use Rattle.vax_asm.specs.Walk.{assembled}
use Rattle.vax_asm_second.specs.declared.types.FillError.{FillError}
use Rattle.vax_asm_listing.specs.View.{Fills}
use Rattle.vax_asm_listing.proofs.tracing.trace.Goals as goal

pub returns-in-Err-Fault-clause-module : goal.returns-in-Err-Fault-clause-module
returns-in-Err-Fault-clause-module c =
    (c.in-Err-Fault.fault.origin.place, subst (λ (e : FillError). Fills (Err e) (assembled c.args.dialect c.args.source.now)) c.in-Err-Fault.field-0-is c.in-Err-Fault.ensures.module)
