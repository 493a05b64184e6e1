use Rattle.std.proofs.Common.{sym, ◌∙◌}
use Rattle.std.proofs.lemmas.List.{take_all}
use Rattle.vax_space.proofs.AreaFaults.{placed_end}
use Rattle.vax_space.proofs.Extents.{fits_at}
use Rattle.vax_undo.proofs.PlainMemory.{starts_more, starts_none, pushed_on}
use Rattle.vax_undo.proofs.plain.blocks_of.Goals as goal

pub block_of-requires-clause-placed : goal.block_of-requires-clause-placed
block_of-requires-clause-placed c = placed_end _ (fits_at _ _ _ c.requires c.loop-area-test.true c.area-item.is).placed

pub block_of-requires-clause-bytes : goal.block_of-requires-clause-bytes
block_of-requires-clause-bytes c = (fits_at _ _ _ c.requires c.loop-area-test.true c.area-item.is).bytes

pub loop-area-init : goal.loop-area-init
loop-area-init c = rw c.in_ok-blocks.ensures.items starts_none

pub loop-area-preserved : goal.loop-area-preserved
loop-area-preserved c =
    let no = sym c.is_err.ensures.value ∙ c.if-is_err.false in
    let items = pushed_on c.push.result c.loop-area.blocks.items c.push.new.self.items c.in_ok-block.block no c.push.ensures.items in
    rw items (starts_more c.args.areas.now c.loop-area.blocks.items c.loop-area.area-index _ c.in_ok-block.block c.loop-area-test.true c.area-item.is c.loop-area.invariant c.in_ok-block.ensures)

pub returns : goal.returns
returns c = rw (take_all _ _ c.loop-area-test.false) at c.loop-area.invariant
