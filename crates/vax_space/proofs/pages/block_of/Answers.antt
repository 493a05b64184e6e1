use Rattle.std.proofs.Common.{arith, sym, ◌∙◌}
use Rattle.vax_space.proofs.Blocks.{later_none, later_here, later_skipped, later_after, block_page}
use Rattle.vax_space.proofs.Extents.{rest_at, fits_at, none_left, has_first, has_last, prot_small, reach_at}
use Rattle.vax_space.proofs.pages.block_of.Goals as goal

pub allows-requires-clause-of_code : goal.allows-requires-clause-of_code
allows-requires-clause-of_code c = prot_small _ _ (fits_at _ _ _ c.requires c.loop-area-test.true c.area-item.is)

pub overflow_sub-result : goal.overflow_sub-result
overflow_sub-result c = has_first _ _ (sym c.has_page.ensures ∙ c.if-has_page.true)

pub overflow_add-result : goal.overflow_add-result
overflow_add-result c =
    let reaches = reach_at _ _ _ c.requires c.loop-area-test.true c.area-item.is in
    let last = has_last _ _ (sym c.has_page.ensures ∙ c.if-has_page.true) in
    let few = c.loop-area.invariant.1 in
    omega arith

pub returns-then-has_page-clause-rank : goal.returns-then-has_page-clause-rank
returns-then-has_page-clause-rank c =
    later_here _ _ _ _ _ (sym c.allows.ensures.answer ∙ c.if-not-allows.false) (sym c.has_page.ensures ∙ c.if-has_page.true)
    (rw (rest_at _ _ _ c.loop-area-test.true c.area-item.is) at c.loop-area.invariant.0)

pub returns-then-has_page-clause-page : goal.returns-then-has_page-clause-page
returns-then-has_page-clause-page c = block_page _ _ _ (returns-then-has_page-clause-rank c)

pub returns-then-has_page-clause-few : goal.returns-then-has_page-clause-few
returns-then-has_page-clause-few c =
    let reaches = reach_at _ _ _ c.requires c.loop-area-test.true c.area-item.is in
    let first = has_first _ _ (sym c.has_page.ensures ∙ c.if-has_page.true) in
    let last = has_last _ _ (sym c.has_page.ensures ∙ c.if-has_page.true) in
    let few = c.loop-area.invariant.1 in
    omega arith

pub overflow_add-rank : goal.overflow_add-rank
overflow_add-rank c =
    let reaches = reach_at _ _ _ c.requires c.loop-area-test.true c.area-item.is in
    let few = c.loop-area.invariant.1 in
    omega arith

pub loop-area-preserved-then-not-allows : goal.loop-area-preserved-then-not-allows
loop-area-preserved-then-not-allows c =
    let reaches = reach_at _ _ _ c.requires c.loop-area-test.true c.area-item.is in
    let few = c.loop-area.invariant.1 in (
      later_skipped _ _ _ _ _ (sym c.allows.ensures.answer ∙ c.if-not-allows.true)
          (rw (rest_at _ _ _ c.loop-area-test.true c.area-item.is) at c.loop-area.invariant.0),
      omega arith,
    )

pub loop-area-preserved : goal.loop-area-preserved
loop-area-preserved c =
    let reaches = reach_at _ _ _ c.requires c.loop-area-test.true c.area-item.is in
    let few = c.loop-area.invariant.1 in (
      later_after _ _ _ _ _ (sym c.allows.ensures.answer ∙ c.if-not-allows.false) (sym c.has_page.ensures ∙ c.if-has_page.false)
          (rw (rest_at _ _ _ c.loop-area-test.true c.area-item.is) at c.loop-area.invariant.0),
      omega arith,
    )

pub returns-clause-rank : goal.returns-clause-rank
returns-clause-rank c = later_none _ _ _ (rw (none_left _ _ c.loop-area-test.false) at c.loop-area.invariant.0)
