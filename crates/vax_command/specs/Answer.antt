-- The answers to runs that stopped by themselves: what the exit status tells of their end.
use Rattle.std.specs.Prelude.{Bool, nat_le, if◌then◌else◌, slice_index}
use Rattle.vax_word.specs.declared.Core.{Core}
use Rattle.vax_flat.specs.declared.Ending.TheVariants as ending
use Rattle.vax_machine.specs.Paged.{Why, ByEnding, BySteps, ByTurns}
use Rattle.vax_cli.specs.declared.command.Strictness.{Strictness}
use Rattle.vax_cli.specs.declared.command.Strictness.TheVariants as strictly
use Rattle.vax_command.specs.declared.status.Status.{Status}
use Rattle.vax_command.specs.declared.status.Status.TheVariants.{Done, Turns, NotHalted, Unsuccessful}

-- R0 has 0 or 1, which programs leave there that did what they were to do
abbrev pub is_success : Core → Bool
is_success core = nat_le (slice_index core.regs 0) 1

-- to HALT
abbrev pub halted : Strictness → Core → Status
halted strictly.Off core = Done
halted strictly.Halt core = Done
halted strictly.Success core = if is_success core then Done else Unsuccessful

-- to the limit of steps, and to any end but HALT
abbrev pub unhalted : Strictness → Status
unhalted strictly.Off = Done
unhalted strictly.Halt = NotHalted
unhalted strictly.Success = NotHalted

abbrev pub status_of : Strictness → Core → Why → Status
status_of strict core (ByEnding ending.Halt) = halted strict core
status_of strict core (ByEnding (ending.Vector offset)) = unhalted strict
status_of strict core (ByEnding ending.Stack) = unhalted strict
status_of strict core (ByEnding ending.Scb) = unhalted strict
status_of strict core (ByEnding ending.Change) = unhalted strict
status_of strict core BySteps = unhalted strict
status_of strict core ByTurns = Turns
