use Rattle.std.proofs.Common.{sym, ap}
use Rattle.vax_asm.proofs.Within.{all_within}
use Rattle.vax_asm.proofs.placing.place.Goals as goal

pub carry_out-requires-clause-within : goal.carry_out-requires-clause-within
carry_out-requires-clause-within c =
    c.statement_of.ensures.within c.in-Ok.line.value.items
    (all_within _ _ _ _ (sym (ap (λ v. v.items) c.in-Ok.ensures.ok)) (sym c.deref-2.ensures.value) c.in_ok-tokens.ensures.within)
