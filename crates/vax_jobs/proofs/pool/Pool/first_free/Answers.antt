use Rattle.std.proofs.Common.{rules, ◌<◌, ◌≤◌, length, map, sym, ◌∙◌}
use Rattle.vax_jobs.specs.Pool.{keeps_of}
use Rattle.vax_jobs.proofs.Searching.{free_here, held_next, none_free_left}
use Rattle.vax_jobs.proofs.pool.Pool.first_free.Goals as goal

pub returns-then-not-is_pinned-clause-found : goal.returns-then-not-is_pinned-clause-found
returns-then-not-is_pinned-clause-found c =
    let within : c.loop-place.place < length c.args.self.now.residents.items = search rules in
    free_here (map keeps_of c.args.self.now.machines.items) c.args.self.now.residents.items c.loop-place.place c.index-pair.result.now within c.index-pair.ensures c.loop-place.invariant (sym c.is_pinned.ensures ∙ c.if-not-is_pinned.true)

pub loop-place-preserved : goal.loop-place-preserved
loop-place-preserved c =
    let within : c.loop-place.place < length c.args.self.now.residents.items = search rules in
    held_next (map keeps_of c.args.self.now.machines.items) c.args.self.now.residents.items c.loop-place.place c.index-pair.result.now within c.index-pair.ensures c.loop-place.invariant (sym c.is_pinned.ensures ∙ c.if-not-is_pinned.false)

pub returns-clause-found : goal.returns-clause-found
returns-clause-found c =
    let past : length c.args.self.now.residents.items ≤ c.loop-place.place = search rules in
    none_free_left (map keeps_of c.args.self.now.machines.items) c.args.self.now.residents.items c.loop-place.place past c.loop-place.invariant
