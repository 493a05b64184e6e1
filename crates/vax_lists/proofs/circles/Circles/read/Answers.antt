use Rattle.std.proofs.Common.{◌<◌, length, ap, arith, refl}
use Rattle.vax_lists.specs.Links.{FrameLists}
use Rattle.vax_lists.proofs.Frames.{came_back, first-length}
use Rattle.vax_lists.proofs.Reading.{below_all, below_next, read_all, read_more, read_none}
use Rattle.vax_lists.proofs.circles.Circles.read.Goals as goal

pub loop-i-init : goal.loop-i-init
loop-i-init c = record {
  within = omega (arith, c.self.invariant.next_size);
  below = below_all _ _ _ _ _ c.self.invariant;
  read = read_none c.self.inside.links.next.items c.args.table.now c.args.cells.now c.self.inside.limit c.self.inside.first c.self.inside.second _ c.self.view_is;
}

pub bounds-table-at : goal.bounds-table-at
bounds-table-at c =
    let was = came_back _ _ _ _ c.from-at.ensures c.index.ensures c.loop-i.invariant.within in
    let low = (below_next _ _ _ c.loop-i.i c.loop-i.at _ c.loop-i-test.true was c.loop-i.invariant.below).0 in
    omega (arith, low, c.requires.table, ap (λ (z : FrameLists). z.limit) c.self.view_is)

pub bounds-cells-i : goal.bounds-cells-i
bounds-cells-i c =
    let count = first-length _ _ _ _ _ c.self.view_is in
    omega (arith, count, c.loop-i-test.true, c.requires.room, c.loop-i.auto.cells)

pub loop-i-preserved : goal.loop-i-preserved
loop-i-preserved c =
    let was = came_back _ _ _ _ c.from-at.ensures c.index.ensures c.loop-i.invariant.within in
    let next = below_next _ _ _ c.loop-i.i c.loop-i.at _ c.loop-i-test.true was c.loop-i.invariant.below in
    let count = first-length _ _ _ _ _ c.self.view_is in
    let room : c.loop-i.i < length c.loop-i.cells = omega (arith, count, c.loop-i-test.true, c.requires.room, c.loop-i.auto.cells) in
    record {
      within = omega (arith, next.0, c.self.invariant.next_size);
      below = next.1;
      read = read_more c.self.inside.links.next.items c.args.table.now c.loop-i.cells c.self.inside.first c.loop-i.i c.loop-i.at c.from-at.result _ _ c.loop-i-test.true room was refl c.loop-i.invariant.read;
    }

pub returns-clause-count : goal.returns-clause-count
returns-clause-count c = first-length _ _ _ _ _ c.self.view_is

pub returns-clause-cells : goal.returns-clause-cells
returns-clause-cells c =
    read_all c.self.inside.links.next.items c.args.table.now c.loop-i.cells c.self.inside.first c.loop-i.i c.loop-i.at _ c.loop-i-test.false c.loop-i.auto.i-end c.loop-i.invariant.read
