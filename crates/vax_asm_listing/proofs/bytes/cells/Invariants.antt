use Rattle.std.proofs.Common.{◌≡◌, ◌*◌, length, take}
use Rattle.std.specs.List.{flat_map}
use Rattle.vax_asm_listing.specs.Listing.{cell}
use Rattle.vax_asm_listing.proofs.bytes.cells.Given as goal

abbrev pub invariant-loop-byte : goal.invariant-loop-byte
invariant-loop-byte l = record {
  text : l.text ≡ flat_map cell (take l.byte-index l.bytes);
  len : length l.text ≡ 3 * l.byte-index;
}
