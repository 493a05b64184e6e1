use Rattle.std.proofs.Common.{◌≡◌, ◌++◌, ◌<◌, ◌^◌, ℕ, List, length, get_or, sym, ap, subst, ◌∙◌}
use Rattle.vax_space.specs.declared.Area.{Area}
use Rattle.vax_image.specs.File.{magic, word, entry, longword, counted}
use Rattle.vax_image.proofs.WritingLaws.{areas_small, area_more}
use Rattle.vax_image.proofs.writing.write.Goals as goal

pub put_counted-requires : goal.put_counted-requires
put_counted-requires c =
    let area = c.area-item.result in
    let i = c.loop-area.area-index in
    let at : get_or c.args.image.now.areas i area ≡ area = ap (λ (xs : List Area). get_or xs i area) (sym c.as_slice-areas.ensures) ∙ sym c.area-item.is in
    let lt : i < length c.args.image.now.areas = subst (λ (xs : List Area). i < length xs) c.as_slice-areas.ensures c.loop-area-test.true in
    let small = areas_small c.args.image.now c.requires i area lt in
    subst (λ (b : List ℕ). length b < 2 ^ 32) (sym c.as_slice.ensures) (subst (λ (a : Area). length a.bytes < 2 ^ 32) at small.0)

pub loop-area-preserved : goal.loop-area-preserved
loop-area-preserved c =
    let area = c.area-item.result in
    let areas = c.as_slice-areas.result.now in
    c.in_ok-put_counted.ensures ∙ ap (λ (b : List ℕ). c.put_placing.new.out.items ++ counted b) c.as_slice.ensures ∙ ap (λ (t : List ℕ). t ++ counted area.bytes) c.in_ok-put_placing.ensures
    ∙ area_more (magic ++ (word 1 ++ (entry c.args.image.now ++ longword (length areas)))) c.loop-area.out.items areas c.loop-area.area-index area c.loop-area-test.true c.area-item.is c.loop-area.invariant
