use Rattle.std.proofs.Common.{false, refl}
use Rattle.vax_pager.proofs.Told.{space_is}
use Rattle.vax_machine.proofs.Delivering.{passed_delivers}
use Rattle.vax_machine.proofs.Holding.{passed_like, passes_on}
use Rattle.vax_machine.proofs.Outputs.{counts_like, err_like, then_counts, then_writes}
use Rattle.vax_machine.proofs.Touching.{page_small}
use Rattle.vax_machine.proofs.engine.Engine.list.Goals as goal

pub list-requires : goal.list-requires
list-requires g c = record { small = λ page is. page_small _ page (space_is c.args.self.now.pager) (c.requires.inside page is) }

pub returns-in_err-list-clause-passes : goal.returns-in_err-list-clause-passes
returns-in_err-list-clause-passes g c =
    passed_like _ _ _ _ _ _ c.from_residual.result c.list.result
    (err_like c.from_residual.result c.list.result _ c.from_residual.ensures.1 c.in_err-list.was) c.list.ensures.passes

pub returns-in_err-list-clause-counts : goal.returns-in_err-list-clause-counts
returns-in_err-list-clause-counts g c = λ file.
    counts_like c.from_residual.result c.list.result _ _ _ _ (err_like c.from_residual.result c.list.result _ c.from_residual.ensures.1 c.in_err-list.was) (c.list.ensures.counts file)

pub returns-clause-passes : goal.returns-clause-passes
returns-clause-passes g c = passes_on _ _ _ _ _ _ _ c.write_due.result c.in_ok-list.ensures.passes c.write_due.ensures.passes

pub returns-clause-writes : goal.returns-clause-writes
returns-clause-writes g c = then_writes _ _ _ _ _ _ c.list.ensures.still c.write_due.ensures.still

pub returns-clause-counts : goal.returns-clause-counts
returns-clause-counts g c = λ file. then_counts c.write_due.result file file file _ _ _ refl (c.in_ok-list.ensures.counts file).sink.quiet (c.write_due.ensures.counts file)

pub returns-clause-delivers : goal.returns-clause-delivers
returns-clause-delivers g c = λ since low.
    passed_delivers _ false (λ e. refl) since c.args.self.now.steps low c.args.held.now _ _ _ _ _ c.in_ok-list.ensures.passes c.list.ensures.due c.write_due.result c.write_due.ensures.passes c.write_due.ensures.due
