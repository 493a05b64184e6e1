use Rattle.std.proofs.Common.{sym, ◌∙◌, arith}
use Rattle.vax_space.proofs.Extents.{rest_at, none_left}
use Rattle.vax_undo.proofs.PlainMemory.{number_small, number_here, number_later, number_none}
use Rattle.vax_undo.proofs.plain.number_of_area.Goals as goal

pub overflow_cast-result : goal.overflow_cast-result
overflow_cast-result c = omega (arith, number_small c.args.areas.now c.loop-number.number c.requires c.loop-number-test.true)

pub returns-then-has_page : goal.returns-then-has_page
returns-then-has_page c =
    let left = rw (rest_at _ _ _ c.loop-number-test.true c.index-areas-number.is) at c.loop-number.invariant in
    sym (number_here _ _ _ _ (sym c.has_page.ensures ∙ c.if-has_page.true)) ∙ left

pub loop-number-preserved : goal.loop-number-preserved
loop-number-preserved c =
    let left = rw (rest_at _ _ _ c.loop-number-test.true c.index-areas-number.is) at c.loop-number.invariant in
    sym (number_later _ _ _ _ (sym c.has_page.ensures ∙ c.if-has_page.false)) ∙ left

pub returns : goal.returns
returns c =
    let left = rw (none_left _ _ c.loop-number-test.false) at c.loop-number.invariant in
    sym (number_none _ _) ∙ left
