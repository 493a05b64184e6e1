use Rattle.std.proofs.Common.{rules, ◌≤◌, ◌*◌, List, length, map, subst, sym}
use Rattle.vax_jobs.specs.Pool.{keeps_of}
use Rattle.vax_jobs.specs.Pooling.{IsPooling}
use Rattle.vax_jobs.specs.declared.pool.Pair.{Pair}
use Rattle.vax_jobs.proofs.Starting.{new_pool}
use Rattle.vax_jobs.proofs.jobs.Jobs.new.Goals as goal

pub invariant_of-result : goal.invariant_of-result
invariant_of-result c =
    let some : 1 ≤ length c.args.jobs.items = search rules in
    let few : length c.args.jobs.items ≤ 8 = search rules in
    let least : 64 * length c.args.jobs.items ≤ c.args.pool = search rules in
    let most : c.args.pool ≤ 32768 = search rules in
    record {
      sound = record {
        sound = subst (λ (pairs : List Pair). IsPooling (record { most = c.args.pool; resident = pairs; processes = map keeps_of c.in_ok-machines.machines.items })) (sym c.in_ok-residents.ensures.items)
            (new_pool c.args.pool c.args.jobs.items c.in_ok-machines.machines.items (some, few) (least, most) c.in_ok-machines.ensures.fresh);
        room = c.in_ok-residents.ensures.capacity;
      };
    }
