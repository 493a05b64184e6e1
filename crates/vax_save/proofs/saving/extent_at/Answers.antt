use Rattle.std.proofs.Common.{◌≡◌, ◌∙◌, List, ap, get_or, subst}
use Rattle.vax_space.specs.declared.Area.{Area}
use Rattle.vax_space.specs.Faults.{IsSpace}
use Rattle.vax_space.proofs.Extents.{area_end}
use Rattle.vax_machine.specs.Machine.{keeping}
use Rattle.vax_machine.specs.Meaning.{engine}
use Rattle.vax_save.proofs.SavingLaws.{page_inside}
use Rattle.vax_save.proofs.saving.extent_at.Goals as goal

pub returns-clause-small : goal.returns-clause-small
returns-clause-small c =
    let areas : List Area = (keeping (engine c.args.machine.now)).areas in
    let area : Area = c.index-areas-place.result in
    let same : c.areas.result.now ≡ areas = c.areas.ensures.areas ∙ c.space.ensures in
    let is : area ≡ get_or areas c.args.place area = c.index-areas-place.is ∙ ap (λ (z : List Area). get_or z c.args.place area) same in
    area_end areas c.args.place area (subst IsSpace c.space.ensures c.areas.ensures.sound) c.requires is

pub returns-clause-inside : goal.returns-clause-inside
returns-clause-inside c = λ k within.
    let areas : List Area = (keeping (engine c.args.machine.now)).areas in
    let area : Area = c.index-areas-place.result in
    let same : c.areas.result.now ≡ areas = c.areas.ensures.areas ∙ c.space.ensures in
    let is : area ≡ get_or areas c.args.place area = c.index-areas-place.is ∙ ap (λ (z : List Area). get_or z c.args.place area) same in
    page_inside areas c.args.place area k c.requires is within
