use Rattle.std.proofs.Common.{◌≡◌, ◌+◌, drop}
use Rattle.std.specs.List.{position_or_len}
use Rattle.vax_macro.proofs.Sources.{is_feed}
use Rattle.vax_macro.proofs.lines.line_length.Given as goal

abbrev pub invariant-loop-i : goal.invariant-loop-i
invariant-loop-i l = position_or_len is_feed l.text ≡ l.i + position_or_len is_feed (drop l.i l.text)
