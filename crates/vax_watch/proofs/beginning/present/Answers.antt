use Rattle.std.proofs.Common.{◌++◌, ◌+◌, ◌∙◌, ap, arith, List, ℕ, drop}
use Rattle.vax_watch.specs.Listing.{present}
use Rattle.vax_watch.proofs.Begun.{present_all, present_next, present_none, present_whole}
use Rattle.vax_watch.proofs.beginning.present.Goals as goal

pub returns-in-None : goal.returns-in-None
returns-in-None c = present_whole c.loop-cell.bytes.items _ (present c.args.cells.now) (present_none c.loop-cell.cell-index c.args.cells.now c.in-None.is) c.loop-cell.invariant.exact

pub loop-cell-preserved : goal.loop-cell-preserved
loop-cell-preserved c =
    let k = c.loop-cell.cell-index in
    let cells = c.args.cells.now in
    let short = c.loop-cell.invariant.short in
    let len = c.push.ensures.len in
    record {
      exact = ap (λ (zs : List ℕ). zs ++ present (drop (k + 1) cells)) c.push.ensures.items ∙ present_next k cells c.in-Some.byte c.loop-cell.bytes.items c.in-Some.is c.loop-cell.invariant.exact;
      short = omega (arith, short, len);
    }

pub returns : goal.returns
returns c =
    let test = c.loop-cell-test.false in
    present_whole c.loop-cell.bytes.items _ (present c.args.cells.now) (present_all c.loop-cell.cell-index c.args.cells.now (omega (arith, test))) c.loop-cell.invariant.exact
