use Rattle.std.proofs.Common.{[], ◌≤◌, ◌^◌, ℕ, ap, subst, sym}
use Rattle.vax_machine.specs.Paged.{Paged}
use Rattle.vax_save.specs.Restored.{restored_place, state}
use Rattle.vax_save.proofs.restoring.restore.Goals as goal

pub returns-clause-few : goal.returns-clause-few
returns-clause-few c =
    let place = restored_place (state c.in_ok-state.state) [] in
    subst (λ (n : ℕ). n ≤ 10 ^ 18) (sym (ap (λ (p : Paged). p.steps) (c.in_ok-machine.ensures.begun place))) c.in_ok-state.ensures.few
