use Rattle.std.proofs.Common.{◌≡◌, List, ap, refl, subst, sym, ◌∙◌, inl, inr, true, false}
use Rattle.std.specs.Prelude.{is_some}
use Rattle.vax_space.specs.declared.Area.{Area}
use Rattle.vax_space.specs.Areas.{area_of}
use Rattle.vax_pager.specs.Meaning.{pages}
use Rattle.vax_pager.specs.Paging.{Paging}
use Rattle.vax_pager.proofs.Told.{pager_is}
use Rattle.vax_machine.specs.Residence.{residence_of}
use Rattle.vax_machine.proofs.Services.{areas_evicted, evicted_nothing, evicts_as, keeping_same, keeps_place, not_there, outside_absent, residence_evicted, sound_evicted, wrote_nothing_of}
use Rattle.vax_machine.proofs.engine.Engine.evict.Goals as goal

pub returns-then-not-has-clause-applies : goal.returns-then-not-has-clause-applies
returns-then-not-has-clause-applies g c = (
  evicts_as _ _ false _ _ _ (outside_absent c.args.page (pages c.args.self.now.pager) (pager_is c.args.self.now.pager) (sym c.if-not-has.ensures)) (refl, refl),
  λ place m. m,
)

pub returns-then-resident-clause-sound : goal.returns-then-resident-clause-sound
returns-then-resident-clause-sound g c = record { pages = sound_evicted _ _ _ _ c.in-Ok.ensures.ok c.requires.sound.pages; unsent = c.requires.sound.unsent }

pub returns-then-resident-clause-applies : goal.returns-then-resident-clause-applies
returns-then-resident-clause-applies g c = (
  evicts_as _ _ true _ _ _ (sym c.in-Ok.ensures.answer ∙ c.if-resident.true)
      (inr (refl, rw (areas_evicted (pages c.args.self.now.pager) (pages c.evict.new.self) _ c.in-Ok.ensures.ok, residence_evicted _ _ _ c.in-Ok.ensures.ok) refl)),
  keeps_place c.args.self.now _ _ _ _ c.in-Ok.ensures.keeps,
)

pub returns-else-resident-clause-sound : goal.returns-else-resident-clause-sound
returns-else-resident-clause-sound g c = record { pages = sound_evicted _ _ _ _ c.in-Ok.ensures.ok c.requires.sound.pages; unsent = c.requires.sound.unsent }

pub returns-else-resident-clause-applies : goal.returns-else-resident-clause-applies
returns-else-resident-clause-applies g c =
    let no = sym c.in-Ok.ensures.answer ∙ c.if-resident.false in (
      evicts_as _ _ false _ _ _ no
          (refl, rw (areas_evicted (pages c.args.self.now.pager) (pages c.evict.new.self) _ c.in-Ok.ensures.ok, residence_evicted _ _ _ c.in-Ok.ensures.ok ∙ not_there _ (residence_of (pages c.args.self.now.pager)) no) refl),
      keeps_place c.args.self.now _ _ _ _ c.in-Ok.ensures.keeps,
    )

pub returns-in-Err-clause-sound : goal.returns-in-Err-clause-sound
returns-in-Err-clause-sound g c = record { pages = rw c.in-Err.ensures.err c.requires.sound.pages; unsent = c.requires.sound.unsent }

pub returns-in-Err-clause-applies : goal.returns-in-Err-clause-applies
returns-in-Err-clause-applies g c =
    let yes = (pager_is c.args.self.now.pager).dirty c.args.page c.in-Err.ensures.needed in (
      evicts_as _ _ true _ _ _ yes (inl (refl, keeping_same c.args.self.now c.evict.new.self (ap (λ (z : Paging). residence_of z) c.in-Err.ensures.err, ap (λ (z : Paging). z.areas) c.in-Err.ensures.err))),
      keeps_place c.args.self.now _ _ _ _ c.in-Err.ensures.keeps,
    )

pub returns-then-resident-clause-inside : goal.returns-then-resident-clause-inside
returns-then-resident-clause-inside g c = λ is.
    subst (λ (z : List Area). is_some (area_of z c.args.page) ≡ true) (sym (areas_evicted (pages c.args.self.now.pager) (pages c.evict.new.self) _ c.in-Ok.ensures.ok))
    ((pager_is c.args.self.now.pager).inside c.args.page (sym c.in-Ok.ensures.answer ∙ c.if-resident.true))

pub returns-then-resident-clause-moves : goal.returns-then-resident-clause-moves
returns-then-resident-clause-moves g c = (c.in-Ok.ensures.ok, c.in-Ok.ensures.wrote)

pub returns-else-resident-clause-moves : goal.returns-else-resident-clause-moves
returns-else-resident-clause-moves g c =
    let away = sym c.in-Ok.ensures.answer ∙ c.if-resident.false in (
      c.in-Ok.ensures.ok ∙ evicted_nothing c.args.page (pages c.args.self.now.pager) away,
      c.in-Ok.ensures.wrote ∙ wrote_nothing_of c.args.page (pages c.args.self.now.pager) _ (pager_is c.args.self.now.pager) away,
    )

pub returns-in-Err-clause-moves : goal.returns-in-Err-clause-moves
returns-in-Err-clause-moves g c = (c.in-Err.ensures.err, c.in-Err.ensures.unwritten, c.in-Err.ensures.needed)
