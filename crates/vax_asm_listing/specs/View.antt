-- What a source's reading gives.
use Rattle.std.specs.Prelude.{Result, Ok, Err}
use Rattle.vax_asm.specs.View as asm
use Rattle.vax_asm.specs.declared.error.AsmError.{AsmError}
use Rattle.vax_asm_second.specs.View as second
use Rattle.vax_asm_second.specs.declared.types.Fault.{Fault}
use Rattle.vax_asm_second.specs.declared.types.FillError.{FillError}
use Rattle.vax_module.specs.declared.Module.{Module}
use Rattle.vax_asm_listing.specs.declared.types.Trace.{Trace}

abbrev pub with_module : {E : Type 0} → Result Trace E → Result Module E
with_module (Ok t) = Ok t.module
with_module (Err e) = Err e

-- the module or the fault that is meant; memory may be refused at any time
abbrev pub Fills : Result Trace FillError → Result Module Fault → Type 0
Fills r meant = second.Fills (with_module r) meant

abbrev pub Answers : Result Trace AsmError → Result Module Fault → Type 0
Answers r meant = asm.Answers (with_module r) meant
