use Rattle.std.proofs.Common.{◌≡◌, drop, map}
use Rattle.std.specs.Prelude.{slice_get}
use Rattle.vax_sched.specs.Due.{repeated_now}
use Rattle.vax_sched.proofs.due.repeated_at.Given as goal

-- what is left of the place falls in what is left of the rules
abbrev pub invariant-loop-rule : goal.invariant-loop-rule
invariant-loop-rule l = slice_get (map (λ rule. rule.target) (repeated_now l.turn (drop l.rule-index l.rules))) l.left ≡ slice_get (map (λ rule. rule.target) (repeated_now l.turn l.rules)) l.place
