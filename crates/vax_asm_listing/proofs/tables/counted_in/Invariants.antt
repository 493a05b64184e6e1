use Rattle.std.proofs.Common.{◌≡◌, take}
use Rattle.vax_asm_listing.specs.Listing.{counted_in}
use Rattle.vax_asm_listing.proofs.tables.counted_in.Given as goal

abbrev pub invariant-loop-row : goal.invariant-loop-row
invariant-loop-row l = l.most ≡ counted_in l.number (take l.row-index l.rows)
