use Rattle.std.proofs.Common.{◌≡◌, ◌≤◌, ◌-◌, ◌++◌, [], drop, take, map}
use Rattle.vax_asm_statement.specs.Parts.{split_from}
use Rattle.vax_asm_statement.proofs.operators.split.Given as goal

abbrev pub invariant-loop-i : goal.invariant-loop-i
invariant-loop-i l = record {
  behind : l.begin ≤ l.i;
  shallow : l.depth ≤ l.i;
  same : map (λ s. s.now) l.found.items ++ split_from l.depth (take (l.i - l.begin) (drop l.begin l.tokens)) (drop l.i l.tokens) ≡ split_from 0 [] l.tokens;
}
