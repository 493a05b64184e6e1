use Rattle.std.proofs.Common.{◌≤◌, ◌+◌, length, sym, ap, ◌∙◌, arith}
use lib.Count.{count_trailing_zeros}
use Rattle.vax_strpart.proofs.MarkLaws.{block_none, block_some, first_within}
use Rattle.vax_strpart.proofs.marks.first_or_len.Goals as goal

pub overflow_add-result : goal.overflow_add-result
overflow_add-result g c =
    let ms = g.M.Marks.marks c.args.marks.now in
    let found = c.block-found in
    let first = block_some ms c.loop-i.i (omega (arith, c.len.ensures, c.loop-i.invariant.1)) (omega (arith, found.ensures)) ∙ ap (count_trailing_zeros 64) (sym found.ensures) in
    omega (arith, first, first_within ms c.loop-i.i c.loop-i.invariant.1, c.len.ensures)

pub returns-then-found-ne0 : goal.returns-then-found-ne0
returns-then-found-ne0 g c =
    let ms = g.M.Marks.marks c.args.marks.now in
    let found = c.block-found in
    let first = block_some ms c.loop-i.i (omega (arith, c.len.ensures, c.loop-i.invariant.1)) (omega (arith, found.ensures)) ∙ ap (count_trailing_zeros 64) (sym found.ensures) in
    omega (arith, first, c.loop-i.invariant.0)

pub loop-i-preserved : goal.loop-i-preserved
loop-i-preserved g c =
    let ms = g.M.Marks.marks c.args.marks.now in
    let room : c.loop-i.i + 32 ≤ length ms = omega (arith, c.len.ensures, c.loop-i.invariant.1) in
    let none = block_none ms c.loop-i.i room (omega (arith, c.block-found.ensures)) in
    (omega (arith, none, c.loop-i.invariant.0), room)
