use Rattle.std.proofs.Common.{sym, ◌∙◌, refl}
use Rattle.vax_order.proofs.Named.{missing, named_more, named_none}
use Rattle.vax_order.proofs.order.names_all.Goals as goal

pub loop-job-init : goal.loop-job-init
loop-job-init c = named_none c.args.order.now

pub returns-then-not-names : goal.returns-then-not-names
returns-then-not-names c = sym (missing c.args.jobs c.loop-job.job c.args.order.now c.loop-job-test.true (sym c.names.ensures ∙ c.if-not-names.true))

pub loop-job-preserved : goal.loop-job-preserved
loop-job-preserved c = named_more c.loop-job.job _ c.args.order.now refl c.loop-job.invariant (sym c.names.ensures ∙ c.if-not-names.false)
