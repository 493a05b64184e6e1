use Rattle.std.proofs.Common.{◌≡◌, ◌+◌, ◌==◌, drop}
use Rattle.std.specs.List.{prefix_len}
use Rattle.vax_debug_words.proofs.expression.signs.Given as goal

-- the signs go on as far as what is left begins with them
abbrev pub invariant-loop-i : goal.invariant-loop-i
invariant-loop-i l = prefix_len (λ c. c == 64) l.word ≡ l.i + prefix_len (λ c. c == 64) (drop l.i l.word)
