use Rattle.std.proofs.Common.{◌≡◌, ◌+◌, ◌*◌, ◌++◌, length, option_map}
use Rattle.vax_script.specs.Numbers.{bytes}
use Rattle.vax_script.proofs.numbers.bytes.Given as goal

-- the bytes so far, and what is left of the word
abbrev pub invariant-loop-high : goal.invariant-loop-high
invariant-loop-high l = record {
  said : option_map (λ more. l.found ++ more) (bytes l.rest) ≡ bytes l.word;
  count : 2 * length l.found + length l.rest ≡ length l.word;
}

abbrev pub decreases-loop-high : goal.decreases-loop-high
decreases-loop-high l = length l.rest
