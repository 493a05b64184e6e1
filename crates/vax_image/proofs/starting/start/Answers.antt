use Rattle.vax_image.proofs.Spaces.{start_sound}
use Rattle.vax_image.proofs.starting.start.Goals as goal

pub returns-in_err-areas-clause-sound : goal.returns-in_err-areas-clause-sound
returns-in_err-areas-clause-sound c = start_sound c.args.system.now _ c.requires.system c.requires.bare c.requires.user c.requires.base

pub returns-in-Err-clause-sound : goal.returns-in-Err-clause-sound
returns-in-Err-clause-sound c = start_sound c.args.system.now _ c.requires.system c.requires.bare c.requires.user c.requires.base
