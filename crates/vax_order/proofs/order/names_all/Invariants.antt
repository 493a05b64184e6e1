use Rattle.std.proofs.Common.{◌≡◌, true}
use Rattle.vax_order.specs.Orders.{names_all}
use Rattle.vax_order.proofs.order.names_all.Given as goal

abbrev pub invariant-loop-job : goal.invariant-loop-job
invariant-loop-job l = names_all l.job l.order ≡ true
