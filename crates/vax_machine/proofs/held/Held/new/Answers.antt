use Rattle.std.proofs.Common.{◌≡◌, [], arith, inl, refl, rules}
use Rattle.vax_machine.proofs.held.Held.new.Goals as goal

pub returns-clause-waits : goal.returns-clause-waits
returns-clause-waits c = λ steps.
    let none : c.new.result.items ≡ [] = search rules in
    record { line = rw none refl; early = inl none; soon = omega arith }
