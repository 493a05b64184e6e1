use Rattle.std.proofs.Common.{◌≡◌, ◌++◌, drop}
use Rattle.std.specs.Str.{str_to_ascii_lowercase}
use Rattle.vax_asm_causes.proofs.counts.small.Given as goal

abbrev pub invariant-loop-byte : goal.invariant-loop-byte
invariant-loop-byte l = l.all.items ++ str_to_ascii_lowercase (drop l.byte-index l.name) ≡ str_to_ascii_lowercase l.name
