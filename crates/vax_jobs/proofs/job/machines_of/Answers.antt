use Rattle.std.proofs.Common.{◌≤◌, ◌∷◌, [], List, ap, arith, length, length-append, subst}
use Rattle.std.proofs.lemmas.List.Elements.{All-tail}
use Rattle.std.specs.List.{All}
use Rattle.vax_jobs.specs.declared.job.Job.{Job}
use Rattle.vax_jobs.proofs.Starting.{made_more}
use Rattle.vax_jobs.proofs.job.machines_of.Goals as goal

pub loop-job-preserved : goal.loop-job-preserved
loop-job-preserved c = record {
  made = made_more c.args.pool c.args.jobs.items c.loop-job.left.items c.pop_front.new.self.items c.loop-job.machines.items c.push_reserved.new.self.items c.in-Some.job c.in_ok-machine_of.field-0 c.loop-job.invariant.made c.in-Some.ensures.items c.push_reserved.ensures.items c.in_ok-machine_of.ensures;
  short = All-tail (λ j. length j.input.items ≤ 4194304) c.in-Some.job c.pop_front.new.self.items (subst (λ (js : List Job). All (λ j. length j.input.items ≤ 4194304) js) c.in-Some.ensures.items c.loop-job.invariant.short);
  room = omega (arith, c.loop-job.invariant.room, ap length c.in-Some.ensures.items, ap length c.push_reserved.ensures.items, length-append c.loop-job.machines.items (c.in_ok-machine_of.field-0 ∷ []), c.push_reserved.ensures.capacity);
}
