use Rattle.std.proofs.Common.{◌≡◌, ◌+◌, ◌*◌, ◌++◌, length, take}
use Rattle.std.specs.List.{flat_map}
use Rattle.vax_report.specs.Lines.{spaced}
use Rattle.vax_report.proofs.lines.push_numbers.Given as goal

-- the label and the numbers so far
abbrev pub invariant-loop-n : goal.invariant-loop-n
invariant-loop-n l = record {
  exact : l.text ≡ l.fn.text ++ (l.label ++ flat_map spaced (take l.n-index l.numbers));
  len : length l.text ≡ length l.fn.text + length l.label + 9 * l.n-index;
}
