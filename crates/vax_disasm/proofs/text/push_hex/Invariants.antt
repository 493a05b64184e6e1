use Rattle.std.proofs.Common.{◌≡◌, ◌≤◌, ◌+◌, ◌++◌, length}
use Rattle.vax_outside.specs.Hex.{hex}
use Rattle.vax_disasm.proofs.text.push_hex.Given as goal

-- the digits that are left
abbrev pub invariant-loop-left : goal.invariant-loop-left
invariant-loop-left l = record {
  few : l.left ≤ l.fn.places;
  exact : l.text.bytes ++ hex l.left l.n ≡ l.fn.text.bytes ++ hex l.fn.places l.n;
  len : length l.text.bytes + l.left ≡ length l.fn.text.bytes + l.fn.places;
}

abbrev pub decreases-loop-left : goal.decreases-loop-left
decreases-loop-left l = l.left
