use Rattle.std.proofs.Common.{◌≡◌, ◌+◌, drop}
use Rattle.std.specs.List.{prefix_len}
use Rattle.vax_lines.specs.Words.{is_word_byte}
use Rattle.vax_lines.proofs.words.word_len.Given as goal

-- the word goes on as far as what is left begins with one
abbrev pub invariant-loop-i : goal.invariant-loop-i
invariant-loop-i l = prefix_len is_word_byte l.text ≡ l.i + prefix_len is_word_byte (drop l.i l.text)
