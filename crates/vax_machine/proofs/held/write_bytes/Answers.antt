use Rattle.vax_machine.proofs.Outputs.{counts_like, err_like}
use Rattle.vax_machine.proofs.held.write_bytes.Goals as goal

pub returns-in_err-put-clause-counts : goal.returns-in_err-put-clause-counts
returns-in_err-put-clause-counts g c = λ file.
    counts_like c.from_residual.result c.put.result _ _ _ _ (err_like c.from_residual.result c.put.result _ c.from_residual.ensures.1 c.in_err-put.was) (c.put.ensures.counts file)
