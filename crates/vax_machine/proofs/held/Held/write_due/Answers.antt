use Rattle.std.proofs.Common.{arith, inl, inr, refl}
use Rattle.std.proofs.lemmas.Bool.Decides.{nat_tests}
use Rattle.vax_machine.proofs.Holding.{bytes_first, bytes_whole, only_passes, stuck, through}
use Rattle.vax_machine.proofs.Outputs.{counts_like, err_like, pass_nothing, writes_nothing}
use Rattle.vax_machine.proofs.held.Held.write_due.Goals as goal

pub returns-in_err-write_bytes-clause-passes : goal.returns-in_err-write_bytes-clause-passes
returns-in_err-write_bytes-clause-passes g c =
    stuck _ _ _ _ _ _ _ _ (bytes_whole _ _) c.from_residual.result c.write_bytes.result
    (err_like c.from_residual.result c.write_bytes.result _ c.from_residual.ensures.1 c.in_err-write_bytes.was) c.write_bytes.ensures.passes

pub returns-in_err-write_bytes-clause-still : goal.returns-in_err-write_bytes-clause-still
returns-in_err-write_bytes-clause-still g c = record { listed = refl; only = only_passes _ _ _ c.write_bytes.result _ _ refl (λ e. refl) refl c.write_bytes.ensures.passes }

pub returns-in_err-write_bytes-clause-counts : goal.returns-in_err-write_bytes-clause-counts
returns-in_err-write_bytes-clause-counts g c = λ file.
    counts_like c.from_residual.result c.write_bytes.result _ _ _ _ (err_like c.from_residual.result c.write_bytes.result _ c.from_residual.ensures.1 c.in_err-write_bytes.was) (c.write_bytes.ensures.counts file)

pub returns-clause-passes : goal.returns-clause-passes
returns-clause-passes g c = through _ _ _ _ _ _ _ _ (bytes_first _ _) (bytes_whole _ _) c.in_ok-write_bytes.ensures.passes

pub returns-clause-still : goal.returns-clause-still
returns-clause-still g c = record { listed = refl; only = only_passes _ _ _ c.write_bytes.result _ _ refl (λ e. refl) refl c.write_bytes.ensures.passes }

pub returns-then-steps-self-clause-passes : goal.returns-then-steps-self-clause-passes
returns-then-steps-self-clause-passes g c = pass_nothing _ _

pub returns-then-steps-self-clause-still : goal.returns-then-steps-self-clause-still
returns-then-steps-self-clause-still g c = writes_nothing _ _

pub returns-clause-due : goal.returns-clause-due
returns-clause-due g c = inl (record { none = c.in_ok-write_bytes.ensures.none; soon = grind (arith, nat_tests) })

pub returns-then-steps-self-clause-due : goal.returns-then-steps-self-clause-due
returns-then-steps-self-clause-due g c = inr (record { same = refl; later = cc; early = c.if-steps-self.true })
