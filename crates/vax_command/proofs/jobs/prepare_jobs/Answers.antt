use Rattle.std.proofs.Common.{List, ℕ, subst}
use Rattle.std.specs.Prelude.{Some}
use Rattle.vax_image.specs.declared.Image.{Image}
use Rattle.vax_jobs.specs.Beginning.{machines, pooling}
use Rattle.vax_jobs.specs.Running.{IsReady, system_of}
use Rattle.vax_jobs.specs.Shared.{begun}
use Rattle.vax_together.specs.Starting.{starts_of}
use Rattle.vax_command.proofs.jobs.prepare_jobs.Goals as goal

pub returns-in-Ok-clause-prepared : goal.returns-in-Ok-clause-prepared
returns-in-Ok-clause-prepared c =
    let system = c.args.programs.now.system in
    let jobs = c.in-Ok.jobs in
    record {
      ready = λ x file.
          subst (λ (users : List Image). IsReady x (system_of (pooling jobs) (machines jobs) (Some file)) (begun x.order (starts_of system users c.args.given.now.input.items))) c.deref.ensures.value
          (subst (λ (input : List ℕ). IsReady x (system_of (pooling jobs) (machines jobs) (Some file)) (begun x.order (starts_of system c.deref.result.now input))) c.deref-2.ensures.value (c.in-Ok.ensures.ready x file));
      most = c.in-Ok.ensures.most;
    }
