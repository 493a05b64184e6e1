use Rattle.std.proofs.Common.{rules, ◌≡◌, Some, None}
use Rattle.vax_asm_listing.proofs.Counted.{counted_more, counted_same}
use Rattle.vax_asm_listing.specs.Listing.{end_in}
use Rattle.vax_asm_listing.proofs.tables.counted_in.Goals.{in-Some, in_default}
use Rattle.vax_asm_listing.proofs.tables.counted_in.Goals as goal

pub loop-row-preserved : goal.loop-row-preserved
loop-row-preserved c =
    let rows = c.args.rows.now in
    let i = c.loop-row.row-index in
    let row = c.row-item.result in
    elim c.match-end_in.branch [
      | in-Some w ↦
          let is : end_in c.args.number row ≡ Some w.in-Some.end = search rules in
          let more = counted_more c.args.number rows i row w.in-Some.end c.loop-row-test.true c.row-item.is is in
          search rules
      | in_default w ↦
          let is : end_in c.args.number row ≡ None = search rules in
          let same = counted_same c.args.number rows i row c.loop-row-test.true c.row-item.is is in
          search rules
    ]
