use Rattle.std.proofs.Common.{◌≡◌}
use Rattle.vax_input.proofs.host.HostLines.fill.Given as goal

-- no failure is counted
abbrev pub invariant-loop : goal.invariant-loop
invariant-loop g l = l.self.failed ≡ l.fn.self.failed
