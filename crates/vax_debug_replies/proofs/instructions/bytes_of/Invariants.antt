use Rattle.std.proofs.Common.{◌≡◌, ◌≤◌, ◌++◌, length, drop}
use Rattle.vax_debug_replies.specs.Instructions.{bytes_of}
use Rattle.vax_debug_replies.proofs.instructions.bytes_of.Given as goal

-- the bytes so far, and those of the cells that are left
abbrev pub invariant-loop-cell : goal.invariant-loop-cell
invariant-loop-cell l = record {
  all : bytes_of l.cells ≡ l.bytes.items ++ bytes_of (drop l.cell-index l.cells);
  few : length l.bytes.items ≤ l.cell-index;
}
