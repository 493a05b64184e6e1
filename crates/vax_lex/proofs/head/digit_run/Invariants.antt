use Rattle.std.proofs.Common.{length, ◌-◌, ◌≡◌, ◌+◌, ◌≤◌, drop}
use Rattle.vax_lex.specs.Tokens.{digit_run}
use Rattle.vax_lex.proofs.head.digit_run.Given as goal

abbrev pub invariant-loop-count : goal.invariant-loop-count
invariant-loop-count l = record {
  in_range : l.count ≤ length l.bytes;
  so_far : l.count + digit_run l.radix (drop l.count l.bytes) ≡ digit_run l.radix l.bytes;
}

abbrev pub decreases-loop-count : goal.decreases-loop-count
decreases-loop-count l = length l.bytes - l.count
