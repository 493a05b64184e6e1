use Rattle.std.proofs.Common.{List, ◌≡◌, ◌⊎◌, subst}
use Rattle.vax_space.specs.declared.Area.{Area}
use Rattle.vax_machine.specs.Meaning.{engine}
use Rattle.vax_command.specs.Running.{IsFaulty}
use Rattle.vax_command.specs.declared.status.Status.TheVariants.{NoMemory}
use Rattle.vax_command.proofs.ResumeLaws.{misfit}
use Rattle.vax_command.proofs.resume.revive.Goals as goal

pub returns-in-Err-clause-fault : goal.returns-in-Err-clause-fault
returns-in-Err-clause-fault c =
    misfit c.args.saved.now c.args.schedule.now c.args.frames (engine c.in-Ok.machine) c.in-Err.status c.in-Ok.ensures.restored
    (subst (λ (z : List Area). IsFaulty z c.args.schedule.now c.in-Err.status ⊎ (c.in-Err.status ≡ NoMemory)) c.space.ensures c.in-Err.ensures.fault)
