use Rattle.std.proofs.Common.{arith, ap, refl, ◌∙◌}
use Rattle.vax_pager.specs.Meaning.{pages}
use Rattle.vax_pager.proofs.Told.{pager_is}
use Rattle.vax_machine.proofs.Batches.{has_advanced, sound_behind, wanted_sound}
use Rattle.vax_machine.proofs.engine.Engine.advance.Goals as goal

pub returns-clause-sound : goal.returns-clause-sound
returns-clause-sound c = record {
  pages = wanted_sound c.steps_at_once-steps.result _ _ _ _ c.wanted_after-self.ensures (sound_behind c.steps_at_once-steps.result (pages c.args.self.now.pager) _ _ _ c.steps_at_once-steps.ensures.written c.settle_after.ensures c.requires.sound.pages);
  unsent = ap (λ t. t.out) c.steps_at_once-steps.ensures.term ∙ c.requires.sound.unsent;
}

pub returns-clause-advanced : goal.returns-clause-advanced
returns-clause-advanced c =
    let few = c.steps_at_once-steps.ensures.few in
    let steps = c.requires.steps in
    let turns = c.requires.turns in
    has_advanced c.args.self.now _ _ c.steps_at_once-steps.result c.steps_at_once-steps.ensures.written (pager_is c.args.self.now.pager) c.requires.going
    (record { pages = c.settle_after.ensures; steps = refl; turns = refl; wanted = c.wanted_after-self.ensures; ended = refl })
    (omega (arith, few, steps)) (omega (arith, few, turns))
    c.steps_at_once-steps.ensures.steps c.steps_at_once-steps.ensures.open c.steps_at_once-steps.ensures.latch
