use Rattle.std.proofs.Common.{◌≡◌, ◌++◌, codes, take}
use Rattle.std.specs.List.{flat_map}
use Rattle.vax_vectors.specs.Text.{character}
use Rattle.vax_vectors.proofs.text.push_string.Given as goal

-- the quote and the characters so far
abbrev pub invariant-loop-byte : goal.invariant-loop-byte
invariant-loop-byte l = l.out.items ≡ l.fn.out.items ++ (codes "\"" ++ flat_map character (take l.byte-index l.bytes))
