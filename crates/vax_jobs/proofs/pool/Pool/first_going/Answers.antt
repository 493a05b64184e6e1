use Rattle.std.proofs.Common.{◌+◌, arith, ap, refl, sym, ◌∙◌}
use Rattle.std.proofs.lemmas.Option.{slice_get-get_or}
use Rattle.vax_jobs.proofs.Ordering.{first_here, first_next, first_past, job_is, line_in}
use Rattle.vax_jobs.specs.Pool.{pooling_of}
use Rattle.vax_jobs.specs.Running.{going}
use Rattle.vax_jobs.proofs.pool.Pool.first_going.Goals as goal

pub returns-then-goes_on-clause-first : goal.returns-then-goes_on-clause-first
returns-then-goes_on-clause-first c =
    let goes = going c.args.steps (pooling_of c.args.self.now) in
    let there = slice_get-get_or c.args.order.now c.loop-line.line (record { job = 0; count = 0 }) c.loop-line-test.true in
    sym (c.loop-line.invariant ∙ first_here goes c.args.order.now c.loop-line.line _ there (sym c.goes_on.ensures ∙ c.if-goes_on.true))

pub returns-then-goes_on-clause-there : goal.returns-then-goes_on-clause-there
returns-then-goes_on-clause-there c =
    let there = slice_get-get_or c.args.order.now c.loop-line.line (record { job = 0; count = 0 }) c.loop-line-test.true in
    record {
      line = c.loop-line-test.true;
      left = (line_in _ c.args.order.now c.loop-line.line _ c.requires there).count;
      goes = ap (going c.args.steps (pooling_of c.args.self.now)) (job_is c.args.order.now c.loop-line.line _ there) ∙ (sym c.goes_on.ensures ∙ c.if-goes_on.true);
    }

pub loop-line-preserved : goal.loop-line-preserved
loop-line-preserved c =
    let there = slice_get-get_or c.args.order.now c.loop-line.line (record { job = 0; count = 0 }) c.loop-line-test.true in
    c.loop-line.invariant ∙ first_next (going c.args.steps (pooling_of c.args.self.now)) c.args.order.now c.loop-line.line (c.loop-line.line + 1) _ refl there (sym c.goes_on.ensures ∙ c.if-goes_on.false)

pub returns-clause-first : goal.returns-clause-first
returns-clause-first c =
    let past = c.loop-line-test.false in
    sym (c.loop-line.invariant ∙ first_past (going c.args.steps (pooling_of c.args.self.now)) c.args.order.now c.loop-line.line (omega (arith, past)))
