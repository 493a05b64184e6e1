use Rattle.std.proofs.Common.{◌≡◌, ◌+◌, ◌*◌, ◌++◌, codes, length, take}
use Rattle.std.specs.List.{flat_map}
use Rattle.vax_outside.specs.Hex.{hex}
use Rattle.vax_report.specs.Lines.{cell}
use Rattle.vax_report.proofs.lines.push_memory.Given as goal

-- the address and the bytes so far
abbrev pub invariant-loop-byte : goal.invariant-loop-byte
invariant-loop-byte l = record {
  exact : l.text ≡ l.fn.text ++ (codes "MEM " ++ hex 8 l.addr ++ flat_map cell (take l.byte-index l.bytes));
  len : length l.text ≡ length l.fn.text + 12 + 3 * l.byte-index;
}
