use Rattle.std.proofs.Common.{◌≡◌, ◌+◌, ◌==◌, drop}
use Rattle.std.specs.List.{prefix_len}
use Rattle.vax_lines.proofs.words.space_len.Given as goal

-- the spaces go on as far as what is left begins with them
abbrev pub invariant-loop-i : goal.invariant-loop-i
invariant-loop-i l = prefix_len (λ c. c == 32) l.text ≡ l.i + prefix_len (λ c. c == 32) (drop l.i l.text)
