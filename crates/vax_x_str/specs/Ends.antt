-- How a part ends that has written.
use Rattle.std.specs.Prelude.{Result, Ok, Err}
use Rattle.vax_word.specs.declared.Psl.{Psl}
use Rattle.vax_flat.specs.declared.Flow.{Flow}
use Rattle.vax_flat.specs.declared.Flow.TheVariants as flow
use Rattle.vax_undo.specs.FirstPart.{NothingOpen}
use Rattle.vax_undo.specs.declared.txn.CutShort.{CutShort}

-- the instruction is completed, or something of it remains
abbrev pub IsPartEnd : Flow → Type 0
IsPartEnd flow.Done = Unit {0}
IsPartEnd flow.Clocked = ⊥
IsPartEnd (flow.Trap kind) = ⊥
IsPartEnd (flow.More opcode units) = Unit {0}
IsPartEnd (flow.Ended e) = ⊥

-- an instruction that is completed isn't open
abbrev pub ClosesIfDone : Result Flow CutShort → Psl → Type 0
ClosesIfDone (Ok flow.Done) psl = NothingOpen psl
ClosesIfDone (Ok flow.Clocked) psl = NothingOpen psl
ClosesIfDone (Ok (flow.Trap kind)) psl = NothingOpen psl
ClosesIfDone (Ok (flow.More opcode units)) psl = Unit {0}
ClosesIfDone (Ok (flow.Ended e)) psl = Unit {0}
ClosesIfDone (Err e) psl = Unit {0}
