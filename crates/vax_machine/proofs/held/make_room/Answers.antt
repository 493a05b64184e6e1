use Rattle.vax_machine.proofs.Outputs.{counts_like, err_like, pass_nothing}
use Rattle.vax_machine.proofs.held.make_room.Goals as goal

pub returns-else-as_slice-gt-MOST_LINES-clause-passes : goal.returns-else-as_slice-gt-MOST_LINES-clause-passes
returns-else-as_slice-gt-MOST_LINES-clause-passes g c = pass_nothing _ _

pub returns-in_err-put-clause-counts : goal.returns-in_err-put-clause-counts
returns-in_err-put-clause-counts g c = λ file.
    counts_like c.from_residual.result c.put.result _ _ _ _ (err_like c.from_residual.result c.put.result _ c.from_residual.ensures.1 c.in_err-put.was) (c.put.ensures.counts file)
