use Rattle.std.specs.Prelude.{Option, Some, Err}
use Rattle.vax_macro.specs.Expansion.{Opened}
use Rattle.vax_macro.specs.Expanders.{Opens}
use Rattle.vax_macro.specs.declared.error.MacroError.{MacroError}
use Rattle.vax_macro.specs.declared.error.MacroError.TheVariants.{Fault, NoMemory}
use Rattle.vax_macro.specs.declared.expander.Expander.{Expander}
use Rattle.vax_macro.proofs.expander.Expander.next.Goals as goal

-- an error that is kept is the same error
kept : (error : MacroError) (after : Expander) (x : Option MacroError) (o : Opened) → Opens (Err error) after o → Opens (Err error) (record after { error = x }) o
kept NoMemory after x o h = h
kept (Fault line kind) after x o h = h

pub returns-in-Err-clause-opens : goal.returns-in-Err-clause-opens
returns-in-Err-clause-opens g c = λ e steps h. kept c.in-Err.error c.advance.new.self (Some c.in-Err.error) _ (c.in-Err.ensures.opens steps h)
