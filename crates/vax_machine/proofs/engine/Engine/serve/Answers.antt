use Rattle.std.proofs.Common.{◌≡◌, Some, refl, inl, inr}
use Rattle.vax_pager.specs.Meaning.{pages}
use Rattle.vax_pager.proofs.Told.{pager_is}
use Rattle.vax_machine.proofs.Services.{areas_after, failed_same, few_pins, is_service, keeping_same, keeps_place, residence_after, serves_as, sound_after, sound_same, victim_inside}
use Rattle.vax_machine.specs.declared.event.Applied.TheVariants.{Served}
use Rattle.vax_machine.proofs.engine.Engine.serve.Goals as goal

pub returns-in-Ok-clause-sound : goal.returns-in-Ok-clause-sound
returns-in-Ok-clause-sound g c = record {
  pages = sound_after (pages c.args.self.now.pager) (pages c.serve.new.self) _ ((pages c.serve.new.self).frame c.in-Some.page) _ c.in-Some.is c.in-Ok.ensures.ok (pager_is c.args.self.now.pager) c.requires.sound.pages;
  unsent = c.requires.sound.unsent;
}

pub returns-in-Ok-clause-applies : goal.returns-in-Ok-clause-applies
returns-in-Ok-clause-applies g c =
    let h = few_pins _ (pages c.args.self.now.pager) _ _ c.in-Some.is c.requires.sound.pages in
    let k = is_service c.in-Some.page ((pages c.serve.new.self).frame c.in-Some.page) (pages c.args.self.now.pager) (pager_is c.args.self.now.pager) h in (
      serves_as _ _ _ _ _ c.in-Some.is
          (inr (rw (c.in-Ok.ensures.answer, k.answer) refl, rw (areas_after (pages c.args.self.now.pager) (pages c.serve.new.self) _ _ c.in-Ok.ensures.ok (pager_is c.args.self.now.pager) h, residence_after (pages c.args.self.now.pager) (pages c.serve.new.self) _ _ c.in-Ok.ensures.ok (pager_is c.args.self.now.pager) h) refl)),
      keeps_place c.args.self.now _ _ _ _ c.in-Ok.ensures.keeps,
    )

pub returns-in-Err-clause-sound : goal.returns-in-Err-clause-sound
returns-in-Err-clause-sound g c = record {
  pages = sound_same (pages c.args.self.now.pager) (pages c.serve.new.self) _ (failed_same (pages c.args.self.now.pager) (pages c.serve.new.self) _ _ _ _ c.in-Err.ensures.err) c.requires.sound.pages;
  unsent = c.requires.sound.unsent;
}

pub returns-in-Err-clause-applies : goal.returns-in-Err-clause-applies
returns-in-Err-clause-applies g c = (
  serves_as _ _ _ _ _ c.in-Some.is (inl (refl, keeping_same c.args.self.now c.serve.new.self (failed_same (pages c.args.self.now.pager) (pages c.serve.new.self) _ _ _ _ c.in-Err.ensures.err))),
  keeps_place c.args.self.now _ _ _ _ c.in-Err.ensures.keeps,
)

pub serve-requires-clause-within : goal.serve-requires-clause-within
serve-requires-clause-within g c = (c.requires.sound.pages.wanted c.in-Some.page c.in-Some.is).0

pub serve-requires-clause-absent : goal.serve-requires-clause-absent
serve-requires-clause-absent g c = (c.requires.sound.pages.wanted c.in-Some.page c.in-Some.is).1

pub serve-requires-clause-pins : goal.serve-requires-clause-pins
serve-requires-clause-pins g c = few_pins _ (pages c.args.self.now.pager) _ _ c.in-Some.is c.requires.sound.pages

pub returns-in-Ok-clause-inside : goal.returns-in-Ok-clause-inside
returns-in-Ok-clause-inside g c = λ page is.
    let e : c.in-Ok.victim ≡ Some page = let k : Served c.in-Ok.victim ≡ Served (Some page) = is in cc in
    victim_inside (pages c.args.self.now.pager) (pages c.serve.new.self) c.in-Some.page page _ c.in-Ok.victim c.in-Ok.ensures.ok c.in-Ok.ensures.answer e (pager_is c.args.self.now.pager) (few_pins _ (pages c.args.self.now.pager) _ _ c.in-Some.is c.requires.sound.pages)

pub returns-in-None-clause-moves : goal.returns-in-None-clause-moves
returns-in-None-clause-moves g c = rw c.in-None.is (refl, refl)

pub returns-in-Ok-clause-moves : goal.returns-in-Ok-clause-moves
returns-in-Ok-clause-moves g c = rw c.in-Some.is (c.in-Ok.ensures.ok, c.in-Ok.ensures.file)

pub returns-in-Err-clause-moves : goal.returns-in-Err-clause-moves
returns-in-Err-clause-moves g c = rw c.in-Some.is c.in-Err.ensures.err
