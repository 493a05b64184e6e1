use Rattle.std.proofs.Common.{◌≡◌, ◌<◌, ◌++◌, ◌∷◌, [], arith, length}
use Rattle.vax_together.proofs.Making.{inputs_more, pushed, started_more}
use Rattle.vax_together.proofs.start.jobs_of.Goals as goal

pub loop-user-preserved : goal.loop-user-preserved
loop-user-preserved c =
    let l : c.loop-user.user-index < length c.args.users.now = omega arith in
    let grown : c.push.new.self.items ≡ c.loop-user.jobs.items ++ c.in_ok-job.job ∷ [] = pushed _ c.loop-user.jobs.items c.push.new.self.items c.in_ok-job.job c.push.ensures.items c.if-is_err.ensures.negation in
    record {
      starts = started_more c.args.system.now c.args.users.now c.args.input.now c.loop-user.user-index c.loop-user.jobs.items c.push.new.self.items c.in_ok-job.job c.user-item.result l c.user-item.is c.loop-user.invariant.starts grown c.in_ok-job.ensures.start;
      inputs = inputs_more c.args.input.now c.loop-user.jobs.items c.push.new.self.items c.in_ok-job.job c.loop-user.invariant.inputs grown c.in_ok-job.ensures.input;
    }
