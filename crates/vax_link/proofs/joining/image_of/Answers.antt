use Rattle.std.proofs.Common.{◌≡◌, false, List, sym, ap, subst, ◌∙◌}
use Rattle.std.specs.Prelude.{Ok, Result}
use Rattle.vax_space.specs.declared.Area.{Area}
use Rattle.vax_image.specs.declared.Base.{Base}
use Rattle.vax_image.specs.declared.Image.{Image}
use Rattle.vax_image.specs.Image.{IsImage, is_in}
use Rattle.vax_link.specs.declared.LinkError.{LinkError}
use Rattle.vax_link.specs.Layout.{is_too_large, pieces_of, sections_in}
use Rattle.vax_link.specs.Placed.{bytes_in}
use Rattle.vax_link.specs.Values.{filled_from}
use Rattle.vax_link.proofs.AreaLaws.{areas_are}
use Rattle.vax_link.proofs.FillLaws.{filled_long}
use Rattle.vax_link.proofs.ImageLaws.{is_image}
use Rattle.vax_link.proofs.LinkLaws.{areas_in, gives_image, gives_no_transfer, gives_outside, gives_reach}
use Rattle.vax_link.proofs.joining.image_of.Goals as goal

pub returns-in_default-clause-placed : goal.returns-in_default-clause-placed
returns-in_default-clause-placed c = gives_no_transfer c.args.base c.args.modules.now (sym (c.in_default.ensures c.args.base c.requires.values))

pub returns-then-not-is_in-clause-placed : goal.returns-then-not-is_in-clause-placed
returns-then-not-is_in-clause-placed c =
    let region = c.args.base in
    let modules = c.args.modules.now in
    let bytes = ap bytes_in c.deref.ensures.value ∙ c.in_ok-filled.ensures region c.requires.values in
    let areas : c.deref-2.result.now ≡ areas_in region modules =
    c.deref-2.ensures.value ∙ c.in_ok-areas.ensures ∙ areas_are region modules c.layout.result.now c.args.values.now.layout c.deref.result.now c.layout.ensures c.requires.values.layout bytes in
    gives_outside region modules c.in-Some.transfer (sym (c.in-Some.ensures region c.requires.values)) (ap (λ (xs : List Area). is_in xs c.in-Some.transfer) (sym areas) ∙ sym c.if-not-is_in.ensures)

pub returns-in-Some-unreached-clause-placed : goal.returns-in-Some-unreached-clause-placed
returns-in-Some-unreached-clause-placed c =
    let region = c.args.base in
    let modules = c.args.modules.now in
    let bytes = ap bytes_in c.deref.ensures.value ∙ c.in_ok-filled.ensures region c.requires.values in
    let areas : c.deref-2.result.now ≡ areas_in region modules =
    c.deref-2.ensures.value ∙ c.in_ok-areas.ensures ∙ areas_are region modules c.layout.result.now c.args.values.now.layout c.deref.result.now c.layout.ensures c.requires.values.layout bytes in
    gives_reach region modules c.in-Some.transfer c.in-Some-unreached.address (sym (c.in-Some.ensures region c.requires.values)) (ap (λ (xs : List Area). is_in xs c.in-Some.transfer) (sym areas) ∙ sym c.if-not-is_in.ensures)
    (sym (c.in-Some-unreached.ensures region c.requires.values))

pub returns-clause-placed : goal.returns-clause-placed
returns-clause-placed c =
    let region = c.args.base in
    let modules = c.args.modules.now in
    let transfer = c.in-Some.transfer in
    let bytes = ap bytes_in c.deref.ensures.value ∙ c.in_ok-filled.ensures region c.requires.values in
    let same : c.in_ok-areas.areas.items ≡ areas_in region modules =
    c.in_ok-areas.ensures ∙ areas_are region modules c.layout.result.now c.args.values.now.layout c.deref.result.now c.layout.ensures c.requires.values.layout bytes in
    let made : List Area → Result Image LinkError = λ xs. Ok (record { base = region; transfer = transfer; areas = xs }) in
    gives_image region modules transfer (sym (c.in-Some.ensures region c.requires.values)) (ap (λ (xs : List Area). is_in xs transfer) (sym (c.deref-2.ensures.value ∙ same)) ∙ sym c.if-not-is_in.ensures)
    (sym (c.in_default-unreached.ensures region c.requires.values))
    ∙ ap made (sym (c.into.ensures ∙ same))

pub returns-clause-image : goal.returns-clause-image
returns-clause-image c =
    let region = c.args.base in
    let modules = c.args.modules.now in
    let transfer = c.in-Some.transfer in
    let kept = c.args.values.now.layout in
    let layout = c.requires.values.layout in
    let bytes = ap bytes_in c.deref.ensures.value ∙ c.in_ok-filled.ensures region c.requires.values in
    let same : c.in_ok-areas.areas.items ≡ areas_in region modules =
    c.in_ok-areas.ensures ∙ areas_are region modules c.layout.result.now kept c.deref.result.now c.layout.ensures layout bytes in
    let room : is_too_large region (pieces_of modules) ≡ false =
    ap (is_too_large region) (sym layout.pieces) ∙ ap (λ (b : Base). is_too_large b (sections_in kept.pieces.items)) (sym layout.place) ∙ kept.placed.room in
    let P : List Area → Type 0 = λ xs. IsImage (record { base = region; transfer = transfer; areas = xs }) in
    subst P (sym (c.into.ensures ∙ same))
    (is_image region (pieces_of modules) (filled_from region modules 0 modules) transfer (filled_long region modules 0 modules c.requires.formed) room
    (ap (λ (xs : List Area). is_in xs transfer) (sym (c.deref-2.ensures.value ∙ same)) ∙ sym c.if-not-is_in.ensures))
