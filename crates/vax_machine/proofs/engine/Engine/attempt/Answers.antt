use Rattle.std.proofs.Common.{refl}
use Rattle.vax_pager.proofs.Keeping.{only_since}
use Rattle.vax_pager.proofs.Told.{pager_is}
use Rattle.vax_machine.proofs.Attempts.{has_tried, sound_before, still_missing, tries_running}
use Rattle.vax_machine.proofs.engine.Engine.attempt.Goals as goal

pub conclude-requires-clause-sound : goal.conclude-requires-clause-sound
conclude-requires-clause-sound c = record {
  pages = sound_before _ _ _ (only_since c.args.self.now.pager _ c.attempt-last.ensures.since) c.requires.sound.pages;
  unsent = c.attempt-last.ensures.unsent;
}

pub conclude-requires-clause-missing : goal.conclude-requires-clause-missing
conclude-requires-clause-missing c =
    still_missing c.attempt-last.result _ _ (only_since c.args.self.now.pager _ c.attempt-last.ensures.since) c.attempt-last.ensures.absent

pub returns-clause-applies : goal.returns-clause-applies
returns-clause-applies c = λ file. (
  tries_running c.args.self.now.ended c.args.self.now _ _ c.in_default.is
      (has_tried c.args.self.now _ _ _ _ c.attempt-last.result (only_since c.args.self.now.pager _ c.attempt-last.ensures.since) (pager_is c.args.self.now.pager) c.in_default.is c.conclude.ensures.concludes c.attempt-last.ensures.attempted c.attempt-last.ensures.before c.attempt-last.ensures.latch),
  refl,
)
