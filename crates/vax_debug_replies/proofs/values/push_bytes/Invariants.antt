use Rattle.std.proofs.Common.{◌≡◌, ◌+◌, ◌*◌, ◌++◌, length, take}
use Rattle.std.specs.List.{flat_map}
use Rattle.vax_debug_replies.specs.Values.{digits_of}
use Rattle.vax_debug_replies.proofs.values.push_bytes.Given as goal

-- the bytes so far
abbrev pub invariant-loop-cell : goal.invariant-loop-cell
invariant-loop-cell l = record {
  exact : l.text ≡ l.fn.text ++ flat_map digits_of (take l.cell-index l.cells);
  len : length l.text ≡ length l.fn.text + 2 * l.cell-index;
}
