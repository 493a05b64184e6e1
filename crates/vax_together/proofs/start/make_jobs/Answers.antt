use Rattle.std.proofs.Common.{◌∙◌, List, subst}
use Rattle.vax_flat.specs.Step.{Flat}
use Rattle.vax_jobs.proofs.Readying.{ready}
use Rattle.vax_jobs.specs.Beginning.{IsFresh, machines, pooling}
use Rattle.vax_jobs.specs.Running.{IsReady, system_of}
use Rattle.vax_jobs.specs.Shared.{begun}
use Rattle.std.specs.Prelude.{Some}
use Rattle.vax_together.proofs.Making.{count_of, zip_count}
use Rattle.vax_together.proofs.start.make_jobs.Goals as goal

pub returns-in-Ok-clause-ready : goal.returns-in-Ok-clause-ready
returns-in-Ok-clause-ready c = λ x file.
    subst (λ (starts : List Flat). IsReady x (system_of (pooling c.in-Ok.jobs) (machines c.in-Ok.jobs) (Some file)) (begun x.order starts)) c.in_ok-jobs.ensures.starts
    (ready c.in_ok-jobs.jobs.items c.args.pool c.in-Ok.jobs x file c.in-Ok.ensures.begins)

pub returns-in-Ok-clause-count : goal.returns-in-Ok-clause-count
returns-in-Ok-clause-count c =
    zip_count (IsFresh c.args.pool) c.in_ok-jobs.jobs.items (machines c.in-Ok.jobs) c.in-Ok.ensures.begins.fresh
    ∙ count_of c.args.system.now c.args.users.now c.args.input.now c.in_ok-jobs.jobs.items c.in_ok-jobs.ensures.starts
