use Rattle.std.proofs.Common.{ap, refl, sym, ◌∙◌, inl, inr, true, false}
use Rattle.vax_pager.specs.Meaning.{pages}
use Rattle.vax_pager.specs.Paging.{Paging}
use Rattle.vax_pager.proofs.Told.{pager_is}
use Rattle.vax_machine.specs.Residence.{residence_of}
use Rattle.vax_machine.proofs.Services.{flushed_nothing, flushes_as, keeping_same, keeps_place, outside_clean, residence_flushed, sound_same, wrote_clean}
use Rattle.vax_machine.proofs.engine.Engine.flush.Goals as goal

pub returns-then-not-has-clause-applies : goal.returns-then-not-has-clause-applies
returns-then-not-has-clause-applies g c = (
  flushes_as _ false _ _ _ (outside_clean c.args.page (pages c.args.self.now.pager) (pager_is c.args.self.now.pager) (sym c.if-not-has.ensures)) (refl, refl),
  λ place m. m,
)

pub returns-then-written-clause-sound : goal.returns-then-written-clause-sound
returns-then-written-clause-sound g c = record {
  pages = sound_same (pages c.args.self.now.pager) (pages c.flush.new.self) _ (residence_flushed (pages c.args.self.now.pager) (pages c.flush.new.self) _ c.in-Ok.ensures.ok) c.requires.sound.pages;
  unsent = c.requires.sound.unsent;
}

pub returns-then-written-clause-applies : goal.returns-then-written-clause-applies
returns-then-written-clause-applies g c = (
  flushes_as _ true _ _ _ (sym c.in-Ok.ensures.answer ∙ c.if-written.true)
      (inr refl, keeping_same c.args.self.now c.flush.new.self (residence_flushed (pages c.args.self.now.pager) (pages c.flush.new.self) _ c.in-Ok.ensures.ok)),
  keeps_place c.args.self.now _ _ _ _ c.in-Ok.ensures.keeps,
)

pub returns-else-written-clause-sound : goal.returns-else-written-clause-sound
returns-else-written-clause-sound g c = record {
  pages = sound_same (pages c.args.self.now.pager) (pages c.flush.new.self) _ (residence_flushed (pages c.args.self.now.pager) (pages c.flush.new.self) _ c.in-Ok.ensures.ok) c.requires.sound.pages;
  unsent = c.requires.sound.unsent;
}

pub returns-else-written-clause-applies : goal.returns-else-written-clause-applies
returns-else-written-clause-applies g c = (
  flushes_as _ false _ _ _ (sym c.in-Ok.ensures.answer ∙ c.if-written.false)
      (refl, keeping_same c.args.self.now c.flush.new.self (residence_flushed (pages c.args.self.now.pager) (pages c.flush.new.self) _ c.in-Ok.ensures.ok)),
  keeps_place c.args.self.now _ _ _ _ c.in-Ok.ensures.keeps,
)

pub returns-in-Err-clause-sound : goal.returns-in-Err-clause-sound
returns-in-Err-clause-sound g c = record { pages = rw c.in-Err.ensures.err c.requires.sound.pages; unsent = c.requires.sound.unsent }

pub returns-in-Err-clause-applies : goal.returns-in-Err-clause-applies
returns-in-Err-clause-applies g c = (
  flushes_as _ true _ _ _ c.in-Err.ensures.needed (inl refl, keeping_same c.args.self.now c.flush.new.self (ap (λ (z : Paging). residence_of z) c.in-Err.ensures.err, ap (λ (z : Paging). z.areas) c.in-Err.ensures.err)),
  keeps_place c.args.self.now _ _ _ _ c.in-Err.ensures.keeps,
)

pub returns-then-written-clause-moves : goal.returns-then-written-clause-moves
returns-then-written-clause-moves g c = (c.in-Ok.ensures.ok, c.in-Ok.ensures.wrote)

pub returns-else-written-clause-moves : goal.returns-else-written-clause-moves
returns-else-written-clause-moves g c =
    let away = sym c.in-Ok.ensures.answer ∙ c.if-written.false in
    (c.in-Ok.ensures.ok ∙ flushed_nothing c.args.page (pages c.args.self.now.pager) away, c.in-Ok.ensures.wrote ∙ wrote_clean c.args.page (pages c.args.self.now.pager) _ away)

pub returns-in-Err-clause-moves : goal.returns-in-Err-clause-moves
returns-in-Err-clause-moves g c = (c.in-Err.ensures.err, c.in-Err.ensures.unwritten)
