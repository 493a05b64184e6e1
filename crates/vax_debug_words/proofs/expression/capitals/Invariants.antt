use Rattle.std.proofs.Common.{◌≡◌, take, map}
use Rattle.std.specs.Char.{to_ascii_uppercase}
use Rattle.vax_debug_words.proofs.expression.capitals.Given as goal

-- the characters so far, in capitals
abbrev pub invariant-loop-byte : goal.invariant-loop-byte
invariant-loop-byte l = l.name ≡ map to_ascii_uppercase (take l.byte-index l.word)
