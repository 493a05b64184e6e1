use Rattle.std.proofs.Common.{arith}
use Rattle.vax_debug_replies.proofs.Cells.{cell_empty, cell_full, cells_done}
use Rattle.vax_debug_replies.proofs.instructions.bytes_of.Goals as goal

pub returns-in-None : goal.returns-in-None
returns-in-None c = cell_empty c.args.cells.now c.loop-cell.bytes.items c.loop-cell.cell-index c.loop-cell-test.true c.in-None.is c.loop-cell.invariant.all

pub loop-cell-preserved : goal.loop-cell-preserved
loop-cell-preserved c = record {
  all = cell_full c.args.cells.now c.loop-cell.bytes.items c.push.new.self.items c.loop-cell.cell-index c.in-Some.byte c.loop-cell-test.true c.in-Some.is c.push.ensures.items c.loop-cell.invariant.all;
  few = let one = c.push.ensures.len in let before = c.loop-cell.invariant.few in omega (arith, one, before);
}

pub returns : goal.returns
returns c = cells_done c.args.cells.now c.loop-cell.bytes.items c.loop-cell.cell-index c.loop-cell-test.false c.loop-cell.invariant.all
