use Rattle.std.proofs.Common.{◌≡◌, drop}
use Rattle.vax_asm_listing.specs.Listing.{bytes_at}
use Rattle.vax_asm_listing.proofs.bytes.bytes_at.Given as goal

abbrev pub invariant-loop-area : goal.invariant-loop-area
invariant-loop-area l = bytes_at l.addr l.count (drop l.area-index l.areas) ≡ bytes_at l.addr l.count l.areas
