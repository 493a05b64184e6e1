use Rattle.std.proofs.Common.{◌≡◌, ◌+◌, ◌==◌, not, drop}
use Rattle.std.specs.List.{prefix_len}
use Rattle.vax_lines.proofs.lines.line_len.Given as goal

-- the front goes on as far as what is left begins with it
abbrev pub invariant-loop-i : goal.invariant-loop-i
invariant-loop-i l = prefix_len (λ c. not (c == 10)) l.text ≡ l.i + prefix_len (λ c. not (c == 10)) (drop l.i l.text)
