use Rattle.std.proofs.Common.{◌≡◌, ◌≤◌, ◌++◌, drop}
use Rattle.vax_asm_listing.specs.Listing.{more_from}
use Rattle.vax_asm_listing.proofs.bytes.push_all.Given as goal

abbrev pub invariant-loop-byte : goal.invariant-loop-byte
invariant-loop-byte l = record {
  text : l.out.items ++ more_from l.place l.at (drop l.byte-index l.bytes) ≡ l.fn.out.items ++ more_from 0 l.addr l.bytes;
  few : l.place ≤ 7;
}
