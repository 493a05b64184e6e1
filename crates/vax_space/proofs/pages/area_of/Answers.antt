use Rattle.std.proofs.Common.{sym, ◌∙◌}
use Rattle.vax_space.proofs.Extents.{rest_at, none_left, area_here, area_later, area_none}
use Rattle.vax_space.proofs.pages.area_of.Goals as goal

pub returns-then-has_page-clause-area : goal.returns-then-has_page-clause-area
returns-then-has_page-clause-area c =
    let left = rw (rest_at _ _ _ c.loop-area-test.true c.area-item.is) at c.loop-area.invariant in
    sym (area_here _ _ _ (sym c.has_page.ensures ∙ c.if-has_page.true)) ∙ left

pub loop-area-preserved : goal.loop-area-preserved
loop-area-preserved c =
    let left = rw (rest_at _ _ _ c.loop-area-test.true c.area-item.is) at c.loop-area.invariant in
    sym (area_later _ _ _ (sym c.has_page.ensures ∙ c.if-has_page.false)) ∙ left

pub returns-clause-area : goal.returns-clause-area
returns-clause-area c =
    let left = rw (none_left _ _ c.loop-area-test.false) at c.loop-area.invariant in
    sym (area_none _) ∙ left
