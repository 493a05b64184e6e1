use Rattle.std.proofs.Common.{List, ℕ, subst}
use Rattle.vax_command.specs.Fresh.{IsFresh}
use Rattle.vax_image.specs.Start.{Start}
use Rattle.vax_machine.specs.Meaning.{engine}
use Rattle.vax_command_debug.proofs.session.start_anew.Goals as goal

pub returns-in-Ok-begin-clause-fresh : goal.returns-in-Ok-begin-clause-fresh
returns-in-Ok-begin-clause-fresh c =
    subst (λ (z : List ℕ). IsFresh (engine c.in-Ok-begin.machine) c.args.beginning.now.frames (Start c.args.beginning.now.programs.now.system c.args.beginning.now.programs.now.user z))
    (c.in-Ok.ensures.items_if_clones_equal (λ x y e. e)) c.in-Ok-begin.ensures.is_fresh

pub returns-in-Ok-begin-clause-between : goal.returns-in-Ok-begin-clause-between
returns-in-Ok-begin-clause-between c = c.in-Ok-begin.ensures.between
