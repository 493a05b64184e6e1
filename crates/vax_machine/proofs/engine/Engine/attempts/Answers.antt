use Rattle.std.proofs.Common.{◌+◌, arith, refl}
use Rattle.vax_pager.specs.Meaning.{pages}
use Rattle.vax_pager.proofs.Keeping.{only_since}
use Rattle.vax_pager.proofs.Told.{pager_is}
use Rattle.vax_machine.proofs.Between.{concluded}
use Rattle.vax_machine.proofs.Batches.{has_tried_several, missing_behind, sound_behind}
use Rattle.vax_machine.proofs.engine.Engine.attempts.Goals as goal

pub conclude-requires-clause-sound : goal.conclude-requires-clause-sound
conclude-requires-clause-sound c = record {
  pages = sound_behind c.attempts-batch.result.steps (pages c.args.self.now.pager) _ _ _ (only_since c.args.self.now.pager _ c.attempts-batch.ensures.since) c.settle_after.ensures c.requires.sound.pages;
  unsent = c.attempts-batch.ensures.unsent;
}

pub conclude-requires-clause-missing : goal.conclude-requires-clause-missing
conclude-requires-clause-missing c =
    missing_behind c.attempts-batch.result.steps c.attempts-batch.result.last (pages c.args.self.now.pager) _ _ (only_since c.args.self.now.pager _ c.attempts-batch.ensures.since) c.settle_after.ensures c.attempts-batch.ensures.absent

pub returns-clause-tried : goal.returns-clause-tried
returns-clause-tried c =
    has_tried_several c.args.self.now _ _ _ _ c.attempts-batch.result.last c.attempts-batch.result.steps (only_since c.args.self.now.pager _ c.attempts-batch.ensures.since) (pager_is c.args.self.now.pager) c.requires.going
    (record { pages = c.settle_after.ensures; steps = refl; turns = refl; wanted = refl; ended = refl })
    c.conclude.ensures.concludes c.attempts-batch.ensures.steps c.attempts-batch.ensures.within c.attempts-batch.ensures.before c.attempts-batch.ensures.latch
    _ c.attempts-batch.ensures.few c.requires.steps c.requires.turns

pub returns-clause-goes_on : goal.returns-clause-goes_on
returns-clause-goes_on c =
    let few = c.attempts-batch.ensures.few in
    concluded (c.args.self.now.steps + c.args.most) c.attempts-batch.result.last _ c.conclude.new.self c.conclude.result c.args.self.now.cpu.latch c.conclude.ensures.concludes c.attempts-batch.ensures.latch c.requires.going (omega (arith, few))
