use Rattle.vax_machine.specs.Meaning.{engine}
use Rattle.vax_save.specs.Saved.{saved}
use Rattle.vax_save.proofs.Streaming.{kept_not}
use Rattle.vax_save.proofs.saving.save.Goals as goal

pub returns-in-Err-clause-saves : goal.returns-in-Err-clause-saves
returns-in-Err-clause-saves g c = λ place means. kept_not _ _ _ (saved place (engine c.args.machine.now).steps) (c.in-Ok.ensures.ok place means) c.in-Err.ensures.err

pub returns-in-Err-clause-some : goal.returns-in-Err-clause-some
returns-in-Err-clause-some g c = let some = c.in-Ok.ensures.some in (some.0, kept_not _ _ _ some.0 some.1 c.in-Err.ensures.err)
