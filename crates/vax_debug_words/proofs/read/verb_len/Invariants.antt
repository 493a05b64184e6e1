use Rattle.std.proofs.Common.{◌≡◌, ◌+◌, ◌==◌, not, drop}
use Rattle.std.specs.List.{prefix_len}
use Rattle.vax_debug_words.proofs.read.verb_len.Given as goal

-- the command's word goes on as far as what is left begins with it
abbrev pub invariant-loop-i : goal.invariant-loop-i
invariant-loop-i l = prefix_len (λ c. not (c == 47)) l.word ≡ l.i + prefix_len (λ c. not (c == 47)) (drop l.i l.word)
