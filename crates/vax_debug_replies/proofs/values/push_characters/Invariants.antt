use Rattle.std.proofs.Common.{◌≡◌, ◌+◌, ◌++◌, length, take}
use Rattle.std.specs.List.{flat_map}
use Rattle.vax_debug_replies.specs.Values.{character_text}
use Rattle.vax_debug_replies.proofs.values.push_characters.Given as goal

-- the characters so far
abbrev pub invariant-loop-cell : goal.invariant-loop-cell
invariant-loop-cell l = record {
  exact : l.text ≡ l.fn.text ++ flat_map character_text (take l.cell-index l.cells);
  len : length l.text ≡ length l.fn.text + l.cell-index;
}
